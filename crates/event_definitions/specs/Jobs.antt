-- The jobs of an event, in their order. They see what the records say after the event: `c` in what follows.
use Rattle.std.specs.Prelude.{ℕ, ◌+◌, ◌-◌, ◌/◌, ◌^◌, ◌==◌, ◌&&◌, ◌||◌, not, nat_lt, nat_le, Bool, false, if◌then◌else◌, List, [], ◌++◌, length, map, Option, Some, None}
use Rattle.std.specs.List.{flat_map, list_any, range_with_len, slice_get}
use Rattle.std.specs.Option.{option_map, option_map_or, option_to_list}
use Rattle.layer_definitions.specs.KeyRefresh.{net_row, own_beacon, transmit_app, transmit_material}
use Rattle.layer_definitions.specs.Lower.{acknowledgment, last_segment, lower_text, segment}
use Rattle.mesh_base.specs.declared.address.Address.{Address}
use Rattle.mesh_base.specs.declared.fields.NetMaterial.{NetMaterial}
use Rattle.mesh_base.specs.declared.iv_state.IvState.{IvState}
use Rattle.mesh_base.specs.declared.keys.NetKeyRow.{NetKeyRow}
use Rattle.mesh_base.specs.declared.keys.UpperKey.{UpperKey}
use Rattle.mesh_base.specs.declared.keys.UpperKey.TheVariants as U
use Rattle.mesh_base.specs.declared.lower.Lower.{Lower}
use Rattle.mesh_base.specs.declared.lower.Lower.TheVariants.{AccessPart, ControlPart}
use Rattle.mesh_base.specs.declared.pair.Pair.{Pair}
use Rattle.mesh_types.specs.declared.answers.Answer.{Answer}
use Rattle.mesh_types.specs.declared.answers.Answer.TheVariants as A
use Rattle.mesh_types.specs.declared.events.Event.{Event}
use Rattle.mesh_types.specs.declared.events.Event.TheVariants as E
use Rattle.mesh_types.specs.declared.events.Outgoing.{Outgoing}
use Rattle.mesh_types.specs.declared.events.SendKey.{SendKey}
use Rattle.mesh_types.specs.declared.events.SendKey.TheVariants as K
use Rattle.mesh_types.specs.declared.jobs.Job.{Job}
use Rattle.mesh_types.specs.declared.jobs.Job.TheVariants as J
use Rattle.layer_states.specs.Names.{is_unicast}
use Rattle.event_definitions.specs.Answers.{config_before, is_before_cache, later}
pub use Rattle.store_definitions.specs.Config.{element_address, reply_ttl}
use Rattle.store_definitions.specs.Config.{Config, is_element}
use Rattle.event_definitions.specs.History.{Insight, OfPdu, Past, Reading, now_of}
use Rattle.event_definitions.specs.Layers.{Layers}
use Rattle.event_definitions.specs.Stores.{message_of}

-- a job under the master credentials of a network key index, which isn't made where the index isn't held
abbrev pub under : Config → ℕ → (NetMaterial → Job) → List Job
under c net job = option_to_list (option_map job (transmit_material c.nets net))

-- The jobs of a network PDU heard.

-- A PDU goes on with one TTL less, where Relay is on, TTL is 2 or more and DST is no element's: also what was read by friendship
-- credentials goes on under the master ones.
abbrev pub relay_jobs : Config → Reading → List Job
relay_jobs c r =
    if c.relay == 1 && nat_le 2 r.fields.ttl && not (is_element c r.fields.dst.0)
    then under c r.by.index (λ m. J.Relay m (record r.fields { ttl = r.fields.ttl - 1 }))
    else []

-- SeqZero and SegN of a segment
abbrev pub segment_numbers : Lower → Option (ℕ × ℕ)
segment_numbers (AccessPart akf aid szmic seq_zero seg_o seg_n piece) = Some (seq_zero, seg_n)
segment_numbers (ControlPart opcode seq_zero seg_o seg_n piece) = Some (seq_zero, seg_n)
segment_numbers _ = None

-- BlockAck of the acknowledgment that an answer asks for, if it asks for one, of a message whose last segment has number seg_n
abbrev pub block_asked : Answer → ℕ → Option ℕ
block_asked A.Again seg_n = Some (2 ^ (seg_n + 1) - 1)
block_asked A.NoKey seg_n = Some (2 ^ (seg_n + 1) - 1)
block_asked (A.Delivered name dst key payload) seg_n = Some (2 ^ (seg_n + 1) - 1)
block_asked (A.Control name dst opcode params) seg_n = Some (2 ^ (seg_n + 1) - 1)
block_asked (A.NoRoom held) seg_n = Some 0
block_asked _ seg_n = None

-- an acknowledgment to the source of a PDU, from the element that it went to
abbrev pub ack_job : Config → Reading → ℕ → ℕ → List Job
ack_job c r seq_zero block =
    under c r.by.index
    (λ m. J.Control m (reply_ttl c r.fields.ttl) r.fields.dst r.fields.src
    (lower_text (acknowledgment seq_zero block)) None)

abbrev pub ack_asked : Config → Reading → Answer → Option (ℕ × ℕ) → List Job
ack_asked c r answer None = []
ack_asked c r answer (Some numbers) = option_map_or (ack_job c r numbers.0) (block_asked answer numbers.1) []

-- a segment to a unicast address is acknowledged
abbrev pub ack_jobs : Config → Reading → Option Lower → Answer → List Job
ack_jobs c r None answer = []
ack_jobs c r (Some low) answer = if is_unicast r.fields.dst then ack_asked c r answer (segment_numbers low) else []

-- what an accepted message asks for: of the control messages, and of the models and the configuration
abbrev pub message_jobs : Layers → Past → Config → Reading → Insight → Answer → List Job
message_jobs layers past c r insight (A.Control name dst opcode params) =
    layers.control_jobs past c (record { reading = r; opcode = opcode; params = params })
message_jobs layers past c r insight (A.Delivered name dst key payload) =
    option_map_or (layers.replies past c) (message_of insight name dst) []
message_jobs layers past c r insight _ = []

-- the node's beacons, one for each network key by index, where Beacon is on
abbrev pub beacon_jobs : Config → List Job
beacon_jobs c = if c.beacon == 1 then map (λ r. J.Beacon (own_beacon c.iv r)) c.nets else []

-- whether the Key Refresh phase of a network key that is held differs from what it was
abbrev pub is_refreshed : List NetKeyRow → NetKeyRow → Bool
is_refreshed before r = option_map_or (λ b. not (b.phase == r.phase)) (net_row before r.index) false

abbrev pub refresh_jobs : Config → Config → List Job
refresh_jobs before c = if list_any (is_refreshed before.nets) c.nets then beacon_jobs c else []

abbrev pub pdu_jobs : Layers → Past → Config → Insight → Answer → List Job
pdu_jobs layers past c (OfPdu (Some r) low opening) answer =
    if is_before_cache answer then []
    else relay_jobs c r
    ++ ack_jobs c r low answer
    ++ message_jobs layers past c r (OfPdu (Some r) low opening) answer
    ++ refresh_jobs (config_before past) c
pdu_jobs layers past c _ answer = []

-- The jobs of a tick event: acknowledgments, segments, beacons where a multiple of 1000 ticks was passed or the IV state changed, and what
-- models publish, the heartbeat last.

abbrev pub is_moved : IvState → IvState → Bool
is_moved s t = not (s.current == t.current) || (if s.progress then not t.progress else t.progress)

abbrev pub beacons_due : Past → Config → ℕ → List Job
beacons_due past c ticks =
    if nat_lt (now_of past.told / 1000) (later past ticks / 1000) || is_moved (config_before past).iv c.iv
    then beacon_jobs c else []

abbrev pub tick_jobs : Layers → Past → Config → ℕ → List Job
tick_jobs layers past c ticks =
    layers.acks_due past c ticks ++ layers.segments_due past c ticks ++ beacons_due past c ticks
    ++ layers.published past c ticks

-- The jobs of the node's own messages.

-- the network key index of the lowest index held, under which goes what no other rule gives one
abbrev pub first_net : Config → Option ℕ
first_net c = option_map (λ r. r.index) (slice_get c.nets 0)

-- the network key index and the key of an own access message: a device key goes under the first network key
abbrev pub send_keys : Config → SendKey → Option (ℕ × UpperKey)
send_keys c K.Own = option_map (λ net. (net, U.Device c.dev_key)) (first_net c)
send_keys c (K.Other key) = option_map (λ net. (net, U.Device key)) (first_net c)
send_keys c (K.App index) = transmit_app c.apps c.nets index

abbrev pub sent_job : Config → ℕ → Address → ℕ → ℕ × UpperKey → List Job
sent_job c element dst ttl keys = under c keys.0 (λ m. J.Sent keys.0 m keys.1 ttl (element_address c element) dst)

-- A message of this node whose payload goes unsegmented, to an address of a friendship, is stored for the Low Power node instead of being
-- sent. Messages that the node is asked to send, replies and publications go by this one rule.
abbrev pub unless_stored : Bool → List ℕ → List Job → List Job
unless_stored is_befriended payload jobs = if is_befriended && nat_le (length payload) 11 then [] else jobs

abbrev pub send_jobs : Layers → Past → Config → ℕ → Address → ℕ → SendKey → List ℕ → List Job
send_jobs layers past c element dst ttl key payload =
    unless_stored (layers.is_befriended past dst) payload
    (option_map_or (sent_job c element dst ttl) (send_keys c key) [])

-- a control PDU goes from the first element under the first network key
abbrev pub raw_jobs : Config → Address → ℕ → List ℕ → List Job
raw_jobs c dst ttl tpdu =
    option_map_or (λ net. under c net (λ m. J.Control m ttl (element_address c 0) dst tpdu None)) (first_net c) []

-- a segment of an own message
abbrev pub segment_job : Bool → Outgoing → ℕ → NetMaterial → Job
segment_job first m seg_o material =
    J.Segment
    (record {
      material = material;
      name = m.name;
      ttl = m.ttl;
      dst = m.dst;
      seg_o = seg_o;
      seg_n = last_segment m.upper;
      tpdu = lower_text (segment m.akf m.aid m.name.pair.seq m.upper seg_o);
      first = first;
    })

-- such a segment for the first time; the first segment goes under the pair of SeqAuth
abbrev pub first_round_job : Outgoing → ℕ → NetMaterial → Job
first_round_job m seg_o = segment_job (seg_o == 0) m seg_o

abbrev pub begin_jobs : Config → Outgoing → List Job
begin_jobs c m =
    flat_map (λ seg_o. under c m.net (first_round_job m seg_o)) (range_with_len 0 (last_segment m.upper + 1))

unfoldable pub jobs_of : Layers → Past → Config → Event → Insight → Answer → List Job
jobs_of layers past c (E.Net octets) insight answer = pdu_jobs layers past c insight answer
jobs_of layers past c (E.Send element dst ttl key payload) insight A.Planned =
    send_jobs layers past c element dst ttl key payload
jobs_of layers past c (E.Raw dst ttl tpdu) insight A.Planned = raw_jobs c dst ttl tpdu
jobs_of layers past c (E.Tick ticks) insight (A.Ticked now) = tick_jobs layers past c ticks
jobs_of layers past c (E.Begin m) insight A.Begun = begin_jobs c m
jobs_of layers past c _ insight answer = []
