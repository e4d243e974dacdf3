-- The answer to an event, after what stands before it. For a network PDU heard it is the first row of a table that holds; the rows come
-- in four groups, and each group has no answer where none of its rows holds.
use Rattle.std.specs.Prelude.{ℕ, ◌+◌, ◌^◌, ◌==◌, ◌&&◌, ◌||◌, not, nat_lt, nat_le, min, Bool, true, false, if◌then◌else◌, length, take, Option, Some, None, is_some, is_none, unwrap_or}
use Rattle.std.specs.List.{list_any, filter_map}
use Rattle.std.specs.Option.{option_map, option_or, option_to_list}
use Rattle.node_limits.specs.declared.TheConstants.{MESSAGES_IN_PROGRESS, OWN_MESSAGES, MESSAGE_CACHE}
use Rattle.cipher_definitions.specs.Kdf.{virtual_address}
use Rattle.layer_definitions.specs.IvIndex.{iv_next}
use Rattle.layer_definitions.specs.KeyRefresh.{net_row, app_row}
use Rattle.layer_definitions.specs.Lower.{seq_auth}
use Rattle.layer_states.specs.Cache.{last_of}
use Rattle.layer_states.specs.Names.{is_name, is_unicast}
use Rattle.layer_states.specs.Reassembly.{is_segment}
pub use Rattle.mesh_base.specs.Address.{is_group}
use Rattle.mesh_base.specs.IvState.{transmit_of}
use Rattle.mesh_base.specs.declared.address.Address.{Address}
use Rattle.mesh_base.specs.declared.beacon.Beacon.{Beacon}
use Rattle.mesh_base.specs.declared.fields.NetFields.{NetFields}
use Rattle.mesh_base.specs.declared.keys.NetKeyRow.{NetKeyRow}
use Rattle.mesh_base.specs.declared.lower.Lower.{Lower}
use Rattle.mesh_base.specs.declared.lower.Lower.TheVariants.{Access, Control, AccessPart, ControlPart}
use Rattle.mesh_base.specs.declared.pair.Name.{Name}
use Rattle.mesh_base.specs.declared.pair.Pair.{Pair}
use Rattle.mesh_types.specs.KeyName.{key_name_of}
use Rattle.mesh_types.specs.declared.answers.Answer.{Answer}
use Rattle.mesh_types.specs.declared.answers.Answer.TheVariants as A
use Rattle.mesh_types.specs.declared.answers.KeyStep.{KeyStep}
use Rattle.mesh_types.specs.declared.answers.KeyStep.TheVariants as S
use Rattle.mesh_types.specs.declared.events.Event.{Event}
use Rattle.mesh_types.specs.declared.events.Event.TheVariants as E
use Rattle.mesh_types.specs.declared.events.SendKey.{SendKey}
use Rattle.mesh_types.specs.declared.events.SendKey.TheVariants as K
use Rattle.mesh_types.specs.declared.low_power.LowPowerAnswer.TheVariants as P
use Rattle.store_definitions.specs.Config.{Config, config_of, is_element}
use Rattle.store_definitions.specs.Entries.{entry_of, others_held, has_room}
use Rattle.event_definitions.specs.History.{Reading, Opening, Insight, OfPdu, OfBeacon, Past, now_of}
use Rattle.event_definitions.specs.Layers.{Layers}
use Rattle.mesh_base.specs.Pairs.{is_newer}

-- what the records before an event say
abbrev pub config_before : Past → Config
config_before past = config_of past.records

-- the name of an accepted message
abbrev pub accepted : Answer → Option Name
accepted (A.Delivered name dst key payload) = Some name
accepted (A.Control name dst opcode params) = Some name
accepted A.Unread = None
accepted A.BadAddress = None
accepted A.Own = None
accepted A.Cached = None
accepted A.NotMine = None
accepted A.Malformed = None
accepted A.Again = None
accepted (A.Replay kept) = None
accepted (A.NoRoom held) = None
accepted A.Conflict = None
accepted (A.Waiting missing) = None
accepted A.NoKey = None
accepted (A.ListFull held) = None
accepted (A.Beacon index key iv) = None
accepted A.Planned = None
accepted (A.NoAppKey index) = None
accepted (A.Ticked now) = None
accepted A.Begun = None
accepted (A.Moved iv) = None
accepted A.Befriended = None
accepted (A.SendFull held) = None
accepted A.Kept = None
accepted A.Dropped = None
accepted (A.LowPower answer) = None
accepted A.Reset = None

-- The first group: what the network layer says of a PDU that reads.

-- The addresses of this node: its elements', all-nodes, all-friends and all-relays where it is one, the groups of subscriptions, and the
-- virtual addresses of the labels held.
abbrev pub is_mine : Config → Address → Bool
is_mine c a =
    is_element c a.0
    || a.0 == 0xffff
    || (a.0 == 0xfffd && c.friend == 1)
    || (a.0 == 0xfffe && c.relay == 1)
    || list_any (λ s. is_group s.2 && s.2.0 == a.0) c.subs
    || list_any (λ l. virtual_address l.2 == a.0) c.labels

-- the pair of a network PDU, and its name
abbrev pub pair_of : NetFields → Pair
pair_of f = record { iv = f.iv; seq = f.seq }

abbrev pub name_of : NetFields → Name
name_of f = record { src = f.src; pair = pair_of f }

-- the answers before the message cache has a PDU
abbrev pub is_before_cache : Answer → Bool
is_before_cache A.Unread = true
is_before_cache A.BadAddress = true
is_before_cache A.Own = true
is_before_cache A.Cached = true
is_before_cache A.Reset = true
is_before_cache _ = false

-- a PDU of this life that got into the message cache
abbrev pub cached_name : Insight → Bool → Option Name
cached_name (OfPdu (Some r) lower opening) false = Some (name_of r.fields)
cached_name _ _ = None

-- whether a PDU is among the last of this life that got into the message cache, as many as it holds
abbrev pub is_cached : Past → NetFields → Bool
is_cached past f =
    list_any (is_name (name_of f))
    (last_of MESSAGE_CACHE (filter_map (λ t. cached_name t.insight (is_before_cache t.entry.answer)) past.told))

abbrev pub network_answer : Past → Reading → Option Answer
network_answer past r =
    if not (is_unicast r.fields.src) || r.fields.dst.0 == 0 then Some A.BadAddress
    else if is_element (config_before past) r.fields.src.0 then Some A.Own
    else if is_cached past r.fields then Some A.Cached
    else if not (is_mine (config_before past) r.fields.dst) then Some A.NotMine
    else None

-- The second group: what the lower transport layer says of a message with this name.

-- the pair that names a message: that of the PDU, or SeqAuth for a segment, if there is one
abbrev pub message_pair : NetFields → Lower → Option Pair
message_pair f (Access akf aid upper) = Some (pair_of f)
message_pair f (Control opcode params) = Some (pair_of f)
message_pair f (AccessPart akf aid szmic seq_zero seg_o seg_n piece) = seq_auth (pair_of f) seq_zero
message_pair f (ControlPart opcode seq_zero seg_o seg_n piece) = seq_auth (pair_of f) seq_zero

abbrev pub message_name : NetFields → Lower → Option Name
message_name f low = option_map (λ p. record { src = f.src; pair = p }) (message_pair f low)

-- whether a pair is the entry, and whether it is up to the entry
abbrev pub is_entry : Option Pair → Pair → Bool
is_entry None p = false
is_entry (Some kept) p = p.iv == kept.iv && p.seq == kept.seq

abbrev pub replayed : Option Pair → Pair → Option Answer
replayed None p = None
replayed (Some kept) p = if is_newer p kept then None else Some (A.Replay kept)

-- whether a message of this name was accepted in this life from segments
abbrev pub is_accepted_segmented : Name → Insight → Answer → Bool
is_accepted_segmented n (OfPdu reading (Some low) opening) answer =
    is_segment low && list_any (is_name n) (option_to_list (accepted answer))
is_accepted_segmented n _ answer = false

abbrev pub is_again : Past → Name → Bool
is_again past n =
    is_entry (entry_of past.records n.src.0) n.pair
    && list_any (λ t. is_accepted_segmented n t.insight t.entry.answer) past.told

-- the answer to a segment
abbrev pub segment_answer : Layers → Past → Reading → Lower → Name → Option Answer
segment_answer layers past r low n =
    if not (list_any (is_name n) (layers.in_progress past)) && nat_le MESSAGES_IN_PROGRESS (length (layers.in_progress past))
    then Some (A.NoRoom (take MESSAGES_IN_PROGRESS (layers.in_progress past)))
    else if layers.conflicts past n r low then Some A.Conflict
    else if nat_lt 0 (layers.missing past n low) then Some (A.Waiting (layers.missing past n low))
    else None

abbrev pub lower_answer : Layers → Past → Reading → Lower → Name → Option Answer
lower_answer layers past r low n =
    if is_segment low && is_again past n then Some A.Again
    else option_or (replayed (entry_of past.records n.src.0) n.pair)
    (if is_segment low then segment_answer layers past r low n else None)

-- The last group: what becomes of a whole message.

-- the answer of a source for which there is a place in the replay list
abbrev pub placed_answer : Past → Name → Answer → Answer
placed_answer past n answer =
    if is_none (entry_of past.records n.src.0) && not (has_room past.records n.src.0)
    then A.ListFull (others_held past.records n.src.0)
    else answer

abbrev pub opened_answer : Past → Reading → Name → Option Opening → Answer
opened_answer past r n None = A.NoKey
opened_answer past r n (Some o) = placed_answer past n (A.Delivered n r.fields.dst (key_name_of o.key) o.payload)

abbrev pub whole_answer : Layers → Past → Reading → Lower → Name → Option Opening → Answer
whole_answer layers past r (Access akf aid upper) n opening = opened_answer past r n opening
whole_answer layers past r (AccessPart akf aid szmic seq_zero seg_o seg_n piece) n opening =
    opened_answer past r n opening
whole_answer layers past r (Control opcode params) n opening =
    placed_answer past n (A.Control n r.fields.dst opcode params)
whole_answer layers past r (ControlPart opcode seq_zero seg_o seg_n piece) n opening =
    placed_answer past n
    (A.Control n r.fields.dst opcode (layers.whole past n (ControlPart opcode seq_zero seg_o seg_n piece)))

-- The whole table.

abbrev pub named_answer : Layers → Past → Reading → Lower → Option Name → Option Opening → Answer
named_answer layers past r low None opening = A.Malformed
named_answer layers past r low (Some n) opening =
    unwrap_or (lower_answer layers past r low n) (whole_answer layers past r low n opening)

abbrev pub transport_answer : Layers → Past → Reading → Option Lower → Option Opening → Answer
transport_answer layers past r None opening = A.Malformed
transport_answer layers past r (Some low) opening = named_answer layers past r low (message_name r.fields low) opening

abbrev pub pdu_answer : Layers → Past → Insight → Answer
pdu_answer layers past (OfPdu (Some r) low opening) =
    unwrap_or (network_answer past r) (transport_answer layers past r low opening)
pdu_answer layers past _ = A.Unread

-- The other events.

-- The step of a beacon in the Key Refresh phase of its network key: under the new key, flag 1 in phase 1 begins phase 2, and flag 0 in
-- phase 1 or 2 ends the Key Refresh.
abbrev pub key_step : Option NetKeyRow → Beacon → KeyStep
key_step None b = S.Same
key_step (Some r) b =
    if b.fresh && b.refresh && r.phase == 1 then S.Phase2
    else if b.fresh && not b.refresh && nat_le 1 r.phase then S.Phase0
    else S.Same

abbrev pub is_busy : Layers → Past → Bool
is_busy layers past = nat_lt 0 (layers.unacknowledged past)

abbrev pub beacon_answer : Layers → Past → Insight → Answer
beacon_answer layers past (OfBeacon (Some b)) =
    let c = config_before past in
    A.Beacon b.index (key_step (net_row c.nets b.index) b)
    (iv_next c.iv (is_some (net_row c.nets 0)) b.index b.iv b.update (is_busy layers past))
beacon_answer layers past _ = A.Unread

abbrev pub send_answer : Past → SendKey → Answer
send_answer past K.Own = A.Planned
send_answer past (K.Other key) = A.Planned
send_answer past (K.App index) =
    if is_some (app_row (config_before past).apps index) then A.Planned else A.NoAppKey index

-- the ticks of this life when so many more have passed; they stop at 2^48
abbrev pub later : Past → ℕ → ℕ
later past ticks = min (2 ^ 48) (now_of past.told + ticks)

abbrev pub begin_answer : Layers → Past → Pair → Address → Answer
begin_answer layers past pair dst =
    let transmit = transmit_of (config_before past).iv in
    if not (pair.iv == transmit) then A.Moved transmit
    else if layers.is_befriended past dst then A.Befriended
    else if nat_le OWN_MESSAGES (layers.unacknowledged past) then A.SendFull (layers.unacknowledged past)
    else A.Begun

-- after a Node Reset nothing from outside has another answer
abbrev pub unless_reset : Past → Answer → Answer
unless_reset past answer = if (config_before past).reset then A.Reset else answer

-- a node that isn't a Low Power node has no friend
unfoldable pub answer_of : Layers → Past → Event → Insight → Answer
answer_of layers past (E.Net octets) insight = unless_reset past (pdu_answer layers past insight)
answer_of layers past (E.Bcn octets) insight = unless_reset past (beacon_answer layers past insight)
answer_of layers past (E.Send element dst ttl key payload) insight = unless_reset past (send_answer past key)
answer_of layers past (E.Raw dst ttl tpdu) insight = unless_reset past A.Planned
answer_of layers past (E.Tick ticks) insight = unless_reset past (A.Ticked (later past ticks))
answer_of layers past (E.Begin m) insight = begin_answer layers past m.name.pair m.dst
answer_of layers past (E.Kept lpn fsn name pdu) insight = if layers.is_noted past lpn fsn then A.Kept else A.Dropped
answer_of layers past (E.LowPower event) insight = unless_reset past (A.LowPower P.NoFriend)
