-- The answers of a Low Power node: to a network PDU heard the first row of a table that holds, and to what it is told. From the replay list
-- on the rows are those of any node.
use Rattle.std.specs.Prelude.{ℕ, ◌==◌, ◌||◌, not, nat_le, Bool, false, if◌then◌else◌, List, [], ◌∷◌, Option, Some, None, is_some, unwrap_or, Result, Ok, Err}
use Rattle.std.specs.List.{list_any}
use Rattle.std.specs.Option.{option_or}
use Rattle.layer_states.specs.Friends.{is_address}
use Rattle.layer_states.specs.Names.{is_unicast}
use Rattle.low_power_definitions.specs.State.{LowPowerState, friend_of, heard_as, list_result, name_of}
use Rattle.low_power_definitions.specs.declared.lpn.ListFault.{ListFault}
use Rattle.low_power_definitions.specs.declared.lpn.ListFault.TheVariants as L
use Rattle.low_power_definitions.specs.declared.lpn.LpnHeard.{LpnHeard}
use Rattle.low_power_definitions.specs.declared.lpn.LpnHeard.TheVariants.{Unasked, Repeat, Pass}
use Rattle.low_power_definitions.specs.declared.lpn.LpnJob.{LpnJob}
use Rattle.mesh_base.specs.declared.address.Address.{Address}
use Rattle.mesh_base.specs.declared.lower.Lower.{Lower}
use Rattle.mesh_types.specs.declared.answers.Answer.{Answer}
use Rattle.mesh_types.specs.declared.answers.Answer.TheVariants as A
use Rattle.mesh_types.specs.declared.events.Event.{Event}
use Rattle.mesh_types.specs.declared.events.Event.TheVariants as E
use Rattle.mesh_types.specs.declared.low_power.LowPowerAnswer.{LowPowerAnswer}
use Rattle.mesh_types.specs.declared.low_power.LowPowerAnswer.TheVariants as P
use Rattle.mesh_types.specs.declared.low_power.LowPowerEvent.{LowPowerEvent}
use Rattle.mesh_types.specs.declared.low_power.LowPowerEvent.TheVariants as W
use Rattle.event_definitions.specs.Answers.{config_before, pair_of, replayed, whole_answer}
use Rattle.event_definitions.specs.History.{Insight, OfPdu, Opening, Past, Reading}
use Rattle.event_definitions.specs.Layers.{quiet_layers}
use Rattle.low_power_role.specs.State.{state_of}
use Rattle.store_definitions.specs.Config.{Config, is_element}
use Rattle.store_definitions.specs.Entries.{entry_of}

-- A network PDU heard.

-- the addresses of this node: its elements', all-nodes, and those that it had added to its friend's list
abbrev pub is_mine : Config → LowPowerState → Address → Bool
is_mine c st a = is_element c a.0 || a.0 == 0xffff || list_any (is_address a) st.list

-- SEG, the first bit of a transport PDU (3.5.2): no segment is taken
abbrev pub is_segmented : List ℕ → Bool
is_segmented [] = false
is_segmented (octet ∷ octets) = nat_le 0x80 octet

abbrev pub network_answer : Past → Reading → Option Answer
network_answer past r =
    if not (is_unicast r.fields.src) || r.fields.dst.0 == 0 then Some A.BadAddress
    else if is_element (config_before past) r.fields.src.0 then Some A.Own
    else if not (is_mine (config_before past) (state_of past) r.fields.dst) then Some A.NotMine
    else if is_segmented r.fields.tpdu then Some (A.LowPower P.Segmented)
    else None

abbrev pub friendship_answer : LpnHeard → Option Answer
friendship_answer Unasked = Some (A.LowPower P.Unasked)
friendship_answer Repeat = Some (A.LowPower P.Repeat)
friendship_answer Pass = None

-- what the friendship says of a PDU, and then what the replay list does
abbrev pub early_answer : Past → Reading → Option Answer
early_answer past r =
    option_or (friendship_answer (heard_as (state_of past) (is_some r.by.lpn) (name_of r.fields)))
    (replayed (entry_of past.records r.fields.src.0) (pair_of r.fields))

abbrev pub transport_answer : Past → Reading → Option Lower → Option Opening → Answer
transport_answer past r None opening = A.Malformed
transport_answer past r (Some low) opening =
    unwrap_or (early_answer past r) (whole_answer quiet_layers past r low (name_of r.fields) opening)

abbrev pub pdu_answer : Past → Insight → Answer
pdu_answer past (OfPdu (Some r) low opening) =
    unwrap_or (network_answer past r) (transport_answer past r low opening)
pdu_answer past _ = A.Unread

-- What the node is told to do.

abbrev pub list_answer : Result LpnJob ListFault → LowPowerAnswer
list_answer (Ok job) = P.Listed
list_answer (Err L.NoFriend) = P.NoFriend
list_answer (Err (L.TooMany held)) = P.TooMany held

abbrev pub told_answer : LowPowerState → LowPowerEvent → LowPowerAnswer
told_answer st W.Seek = P.Sought
told_answer st W.Poll = if is_some (friend_of st.standing) then P.Polled else P.NoFriend
told_answer st (W.List a) = list_answer (list_result st a)

-- it does nothing else
unfoldable pub answer_of : Past → Event → Insight → Answer
answer_of past (E.Net octets) insight = pdu_answer past insight
answer_of past (E.LowPower what) insight = A.LowPower (told_answer (state_of past) what)
answer_of past _ insight = A.Dropped
