-- What a life so far is to the friendship of a Low Power node: calls on what it knows of its friend (Mesh Profile 1.0.1, section 3.6.6).
use Rattle.std.specs.Prelude.{ℕ, ◌++◌, Bool, true, false, if◌then◌else◌, List, [], ◌∷◌, Some, is_some, is_none}
use Rattle.std.specs.List.{flat_map}
use Rattle.layer_definitions.specs.ControlReading.{control_of}
use Rattle.low_power_definitions.specs.State.{LpnCall, LowPowerState, hear, list, lpn, name_of, offer, poll, seek}
use Rattle.mesh_base.specs.declared.address.Address.{Address}
use Rattle.mesh_base.specs.declared.control.ControlMsg.{ControlMsg}
use Rattle.mesh_base.specs.declared.control.ControlMsg.TheVariants as C
use Rattle.mesh_types.specs.declared.answers.Answer.{Answer}
use Rattle.mesh_types.specs.declared.answers.Answer.TheVariants as A
use Rattle.mesh_types.specs.declared.events.Event.{Event}
use Rattle.mesh_types.specs.declared.events.Event.TheVariants as E
use Rattle.mesh_types.specs.declared.low_power.LowPowerAnswer.TheVariants as P
use Rattle.mesh_types.specs.declared.low_power.LowPowerEvent.{LowPowerEvent}
use Rattle.mesh_types.specs.declared.low_power.LowPowerEvent.TheVariants as W
use Rattle.event_definitions.specs.Answers.{config_before}
use Rattle.event_definitions.specs.History.{Insight, OfPdu, Past, Reading, Told}

-- the answers to a PDU that the friendship lets pass
abbrev pub is_passed : Answer → Bool
is_passed (A.Replay kept) = true
is_passed A.NoKey = true
is_passed (A.ListFull held) = true
is_passed (A.Delivered name dst key payload) = true
is_passed (A.Control name dst opcode params) = true
is_passed _ = false

-- the answers to a PDU to which no layer below the friendship has one
abbrev pub is_past_lower : Answer → Bool
is_past_lower (A.LowPower P.Unasked) = true
is_past_lower (A.LowPower P.Repeat) = true
is_past_lower answer = is_passed answer

-- an Offer counts under master credentials (3.6.5.4)
abbrev pub offer_calls : Reading → ControlMsg → List LpnCall
offer_calls r (C.Offer o) = if is_none r.by.lpn then offer r.fields.src o.friend_counter ∷ [] else []
offer_calls r _ = []

abbrev pub control_calls : Reading → Answer → List LpnCall
control_calls r (A.Control name dst opcode params) = offer_calls r (control_of opcode params)
control_calls r _ = []

-- of a PDU heard, by its answer
abbrev pub heard_calls : Reading → Answer → List LpnCall
heard_calls r answer =
    (if is_past_lower answer then hear (is_some r.by.lpn) (name_of r.fields) ∷ [] else []) ++ control_calls r answer

-- of what the node is told to do
abbrev pub told_calls : LowPowerEvent → List LpnCall
told_calls W.Seek = seek ∷ []
told_calls W.Poll = poll ∷ []
told_calls (W.List a) = list a ∷ []

-- of an event, by its answer
abbrev pub event_calls : Event → Insight → Answer → List LpnCall
event_calls (E.LowPower what) insight answer = told_calls what
event_calls (E.Net octets) (OfPdu (Some r) low opening) answer = heard_calls r answer
event_calls _ _ _ = []

abbrev pub calls_in : Told → List LpnCall
calls_in t = event_calls t.entry.event t.insight t.entry.answer

-- the state after the entries of a life, of a node whose first element has this address, and which has so many
abbrev pub life_state : Address → ℕ → List Told → LowPowerState
life_state own elements told = lpn own elements (flat_map calls_in told)

abbrev pub state_of : Past → LowPowerState
state_of past = let c = config_before past in life_state c.unicast c.elements past.told
