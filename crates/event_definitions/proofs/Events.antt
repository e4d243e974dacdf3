-- Which events are answered by an accepted message: of all events only a PDU, and of PDUs one whose name may be accepted.
use Rattle.std.proofs.Common.{◌≡◌, Bool, true, false, cond, not, ◌||◌, eqb, leb, refl, Option, Some, None}
use Rattle.std.specs.Option.{is_some}
use Rattle.layer_definitions.specs.KeyRefresh.{app_row}
use Rattle.mesh_base.specs.IvState.{transmit_of}
use Rattle.mesh_base.specs.declared.address.Address.{Address}
use Rattle.mesh_base.specs.declared.beacon.Beacon.{Beacon}
use Rattle.mesh_base.specs.declared.lower.Lower.{Lower}
use Rattle.mesh_base.specs.declared.pair.Name.{Name}
use Rattle.mesh_base.specs.declared.pair.Pair.{Pair}
use Rattle.mesh_types.specs.declared.answers.Answer.{Answer}
use Rattle.mesh_types.specs.declared.answers.Answer.TheVariants as A
use Rattle.mesh_types.specs.declared.events.Event.{Event}
use Rattle.mesh_types.specs.declared.events.Event.TheVariants as E
use Rattle.mesh_types.specs.declared.events.SendKey.{SendKey}
use Rattle.mesh_types.specs.declared.events.SendKey.TheVariants as K
use Rattle.mesh_types.specs.declared.low_power.LowPowerAnswer.TheVariants as P
use Rattle.layer_states.specs.Names.{is_unicast}
use Rattle.event_definitions.specs.Answers.{accepted, answer_of, beacon_answer, begin_answer, config_before, is_cached, is_mine, later, network_answer, pdu_answer, send_answer, unless_reset}
use Rattle.store_definitions.specs.Config.{is_element}
use Rattle.event_definitions.specs.History.{OfBeacon, OfNothing, OfPdu, Opening, Past, Reading}
use Rattle.event_definitions.specs.Layers.{Layers}
use Rattle.event_definitions.proofs.Accepting.{AcceptedFrom, Refuses, no_answer, refused, refuses_pick, past_refusal, transport_accepts}

network_refuses : (past : Past) (r : Reading) → Refuses (network_answer past r)
network_refuses past r =
    refuses_pick (not (is_unicast r.fields.src) || eqb r.fields.dst.0 0) _ _ (refused refl)
    (refuses_pick (is_element (config_before past) r.fields.src.0) _ _ (refused refl)
    (refuses_pick (is_cached past r.fields) _ _ (refused refl)
    (refuses_pick (not (is_mine (config_before past) r.fields.dst)) _ _ (refused refl) no_answer)))

pub pdu_accepts : (layers : Layers) (past : Past) (r : Reading) (low : Option Lower) (opening : Option Opening) (n : Name)
    → accepted (pdu_answer layers past (OfPdu (Some r) low opening)) ≡ Some n → AcceptedFrom past r n
pdu_accepts layers past r low opening n e =
    let (passed, rest) = past_refusal (network_answer past r) _ n (network_refuses past r) e in
    transport_accepts layers past r low opening n rest

-- Of all events only a PDU is answered so.

pub data Silent : Answer → Type 0 where
  silent : {a : Answer} → accepted a ≡ None → Silent a

pub silent_pick : (b : Bool) (x y : Answer) → Silent x → Silent y → Silent (cond b x y)
silent_pick true x y h k = h
silent_pick false x y h k = k

pub nothing_accepted : (a : Answer) (n : Name) → Silent a → accepted a ≡ Some n → ⊥
nothing_accepted a n (silent h) e = cc

pub reset_accepts : (b : Bool) (a : Answer) (n : Name) → accepted (cond b A.Reset a) ≡ Some n → accepted a ≡ Some n
reset_accepts true a n e = absurd cc
reset_accepts false a n e = e

send_silent : (past : Past) (key : SendKey) → Silent (send_answer past key)
send_silent past K.Own = silent refl
send_silent past (K.Other key) = silent refl
send_silent past (K.App index) = silent_pick (is_some (app_row (config_before past).apps index)) _ _ (silent refl) (silent refl)

begin_silent : (layers : Layers) (past : Past) (pair : Pair) (dst : Address) → Silent (begin_answer layers past pair dst)
begin_silent layers past pair dst =
    silent_pick (not (eqb pair.iv (transmit_of (config_before past).iv))) _ _ (silent refl)
    (silent_pick (layers.is_befriended past dst) _ _ (silent refl)
    (silent_pick (leb 4 (layers.unacknowledged past)) _ _ (silent refl) (silent refl)))

pub beacon_silent : (layers : Layers) (past : Past) (b : Option Beacon) → Silent (beacon_answer layers past (OfBeacon b))
beacon_silent layers past None = silent refl
beacon_silent layers past (Some b) = silent refl

pub unless_silent : (past : Past) (a : Answer) → Silent a → Silent (unless_reset past a)
unless_silent past a h = silent_pick (config_before past).reset A.Reset a (silent refl) h

pub nothing_silent : (layers : Layers) (past : Past) (event : Event) → Silent (answer_of layers past event OfNothing)
unfolding answer_of
nothing_silent layers past (E.Net octets) = unless_silent past A.Unread (silent refl)
nothing_silent layers past (E.Bcn octets) = unless_silent past A.Unread (silent refl)
nothing_silent layers past (E.Send element dst ttl key payload) = unless_silent past _ (send_silent past key)
nothing_silent layers past (E.Raw dst ttl tpdu) = unless_silent past A.Planned (silent refl)
nothing_silent layers past (E.Tick ticks) = unless_silent past (A.Ticked (later past ticks)) (silent refl)
nothing_silent layers past (E.Begin m) = begin_silent layers past m.name.pair m.dst
nothing_silent layers past (E.Kept lpn fsn name octets) = silent_pick (layers.is_noted past lpn fsn) _ _ (silent refl) (silent refl)
nothing_silent layers past (E.LowPower event) = unless_silent past (A.LowPower P.NoFriend) (silent refl)
