-- The answers to a network PDU layer by layer, and what the tables stand for there.
use Rattle.std.specs.Prelude.{◌≡◌, ℕ, ◌&&◌, ◌==◌, ◌||◌, nat_lt, Bool, is_some, if◌then◌else◌, length, List, [], ◌∷◌, Option, Some, None, Result, MatchResult}
use Rattle.std.specs.List.{list_any}
use Rattle.std.specs.Option.{option_map}
use Rattle.layer_definitions.specs.ControlReading.{control_of}
use Rattle.layer_definitions.specs.IvIndex.{iv_next}
use Rattle.layer_definitions.specs.KeyRefresh.{net_row}
use Rattle.layer_states.specs.Reassembly.{PartCall, take_part, is_segment}
use Rattle.layer_states.specs.Sending.{SendCall}
use Rattle.layer_states.specs.declared.reassembly.Assembly.{Assembly}
use Rattle.layer_states.specs.declared.sending.Sending.{Sending}
use Rattle.mesh_base.specs.declared.address.Address.{Address}
use Rattle.mesh_base.specs.declared.beacon.Beacon.{Beacon}
use Rattle.mesh_base.specs.declared.fields.NetFields.{NetFields}
use Rattle.mesh_base.specs.declared.lower.Lower.{Lower}
use Rattle.mesh_base.specs.declared.lower.Lower.TheVariants.{Access, Control, AccessPart, ControlPart}
use Rattle.mesh_base.specs.declared.pair.Name.{Name}
use Rattle.mesh_hearing.specs.Again.{AreRecorded, newest_of}
use Rattle.mesh_hearing.specs.Tables.{cache_after}
use Rattle.mesh_hearing.specs.declared.hearing.Hearing.{Hearing}
use Rattle.message_answers.specs.declared.whole.Judged.{Judged}
use Rattle.mesh_reading.specs.Held.{opening_of}
use Rattle.mesh_hearing.specs.Heard.{insight_of}
use Rattle.mesh_types.specs.declared.events.Event.TheVariants as E
use Rattle.mesh_types.specs.declared.answers.Answer.{Answer}
use Rattle.mesh_types.specs.declared.answers.Answer.TheVariants as A
use Rattle.node_layers.specs.NodeLayers.{node_layers}
use Rattle.node_layers.specs.Reassembly.{messages, octets_after, part_heard}
use Rattle.node_layers.specs.Sending.{acknowledged, stepped_calls}
use Rattle.node_layers.specs.Steps.{segmented_names}
use Rattle.node_records.specs.Meaning.{IsMeaningOf}
use Rattle.node_records.specs.declared.persist.Persist.{Persist}
use Rattle.event_definitions.specs.Answers.{answer_of, config_before, is_again, is_before_cache, is_group, key_step, name_of, named_answer, opened_answer, replayed, segment_answer, transport_answer, whole_answer}
use Rattle.event_definitions.specs.History.{Past, Reading, now_of, OfPdu, Opening}
use Rattle.event_definitions.specs.Readings.{IsLowerPdu, IsOpened, IsOpenedFor, IsOpening, IsOpeningOf, Sees, fields_heard, keys_tried}
use Rattle.store_definitions.specs.Config.{Config, is_element}
use Rattle.store_definitions.specs.Entries.{entry_of}

-- The network layer.

-- an address that a node has without a label
abbrev pub own_address : Config → Address → Bool
own_address c a =
    is_element c a.0
    || a.0 == 0xffff
    || (a.0 == 0xfffd && c.friend == 1)
    || (a.0 == 0xfffe && c.relay == 1)
    || list_any (λ s. is_group s.2 && s.2.0 == a.0) c.subs

-- the message cache after these rows: without one of them, the PDU goes on and is in it
abbrev pub cache_after_row : List Name → NetFields → Option Answer → List Name
cache_after_row names f None = cache_after names (Some (name_of f))
cache_after_row names f (Some answer) = cache_after names (if is_before_cache answer then None else Some (name_of f))

-- The lower transport layer.

-- What stands before a PDU there: the store's value, the messages in progress, the newest names accepted from segments, and the time.
pub record StandsBelow (past : Past) (p : Persist) (rows : List Assembly) (names : List Name) (ticks : ℕ) : Type 0 where
  pub meaning : IsMeaningOf past.records p
  pub parts : rows ≡ messages past
  pub again : names ≡ newest_of (segmented_names past.told)
  pub recorded : AreRecorded past
  pub now : ticks ≡ now_of past.told

-- the rows that go by names alone
abbrev pub known_answer : Past → Lower → Name → Option Answer
known_answer past low n =
    if is_segment low && is_again past n then Some A.Again else replayed (entry_of past.records n.src.0) n.pair

-- the rows of segments behind these
abbrev pub part_answer : Past → Reading → Lower → Name → Option Answer
part_answer past r low n = if is_segment low then segment_answer node_layers past r low n else None

-- the calls on the table of messages in progress that a segment makes, and with the one of a message that is done
abbrev pub taken_calls : ℕ → Config → Reading → Lower → Name → List PartCall
taken_calls now c r low n = if is_segment low then take_part now (part_heard c r n low) ∷ [] else []

-- the octets of a message that came in one PDU
abbrev pub own_octets : Lower → List ℕ
own_octets (Access akf aid upper) = upper
own_octets (Control opcode params) = params
own_octets (AccessPart akf aid szmic seq_zero seg_o seg_n piece) = []
own_octets (ControlPart opcode seq_zero seg_o seg_n piece) = []

-- the octets of a whole message: of its one PDU, or of all its pieces
abbrev pub whole_octets : Past → Name → Lower → List ℕ
whole_octets past n (Access akf aid upper) = upper
whole_octets past n (Control opcode params) = params
whole_octets past n (AccessPart akf aid szmic seq_zero seg_o seg_n piece) =
    octets_after past n (AccessPart akf aid szmic seq_zero seg_o seg_n piece)
whole_octets past n (ControlPart opcode seq_zero seg_o seg_n piece) =
    octets_after past n (ControlPart opcode seq_zero seg_o seg_n piece)

-- what becomes of a message that is no replay: its octets where it is whole, or an answer
abbrev pub IsTakenAs : Past → Reading → Lower → Name → Result (List ℕ) Answer → Type 0
IsTakenAs past r low n taken =
    MatchResult taken
    (λ octets. (part_answer past r low n ≡ None) × (octets ≡ whole_octets past n low))
    (λ answer. part_answer past r low n ≡ Some answer)

-- The answers.

-- to a whole access message
pub record IsAccessAs (past : Past) (r : Reading) (n : Name) (akf : Bool) (aid : ℕ) (szmic : Bool) (octets : List ℕ)
    (j : Judged) : Type 0 where
  pub opens : IsOpenedFor (config_before past) (keys_tried (config_before past) r akf aid)
      (fields_heard r n szmic) octets (option_map opening_of j.opened)
  pub answer : j.answer ≡ opened_answer past r n (option_map opening_of j.opened)

-- to a whole message
pub record IsWholeAs (past : Past) (r : Reading) (low : Lower) (n : Name) (j : Judged) : Type 0 where
  pub opens : IsOpened node_layers past r n low (option_map opening_of j.opened)
  pub answer : j.answer ≡ whole_answer node_layers past r low n (option_map opening_of j.opened)

-- to a message, which has a name or none
pub record IsNamedAs (past : Past) (r : Reading) (low : Lower) (n : Option Name) (j : Judged) : Type 0 where
  pub opens : IsOpeningOf node_layers past r low n (option_map opening_of j.opened)
  pub answer : j.answer ≡ named_answer node_layers past r low n (option_map opening_of j.opened)

-- from the network layer on
pub record IsReadAs (past : Past) (octets : List ℕ) (h : Hearing) : Type 0 where
  pub sees : Sees node_layers past (E.Net octets) (insight_of h)
  pub answer : h.answer ≡ answer_of node_layers past (E.Net octets) (insight_of h)

-- from the lower transport layer on
pub record IsTransportAs (past : Past) (r : Reading) (h : Hearing) : Type 0 where
  pub low : Option Lower
  pub opening : Option Opening
  pub read : insight_of h ≡ OfPdu (Some r) low opening
  pub lower : IsLowerPdu r.fields low
  pub opens : IsOpening node_layers past (Some r) low opening
  pub answer : h.answer ≡ transport_answer node_layers past r low opening

-- Beacons.

-- the answer to a beacon that reads, by whether an own segmented message is unacknowledged
abbrev pub beacon_row : Config → Bool → Beacon → Answer
beacon_row c busy b =
    A.Beacon b.index (key_step (net_row c.nets b.index) b)
    (iv_next c.iv (is_some (net_row c.nets 0)) b.index b.iv b.update busy)

-- Own segmented messages.

-- whether one is unacknowledged
abbrev pub is_any : List Sending → Bool
is_any rows = nat_lt 0 (length rows)

-- what an answer to a network PDU does to them: it may be the acknowledgment of one
abbrev pub heard_calls : Answer → List SendCall
heard_calls (A.Control name dst opcode params) = acknowledged name.src (control_of opcode params)
heard_calls _ = []

-- what an answer to a beacon does to them
abbrev pub beacon_calls : Answer → List SendCall
beacon_calls (A.Beacon index key iv) = stepped_calls iv
beacon_calls _ = []
