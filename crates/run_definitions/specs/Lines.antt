-- What a line may show of a job, which pair it draws, and what follows it.
use Rattle.std.specs.Prelude.{◌≡◌, ℕ, ◌+◌, ◌<◌, ◌≤◌, ◌==◌, ◌||◌, not, nat_lt, if◌then◌else◌, Bool, true, false, List, [], ◌∷◌, length, Option, Some, None}
use Rattle.layer_definitions.specs.Network.{net_text}
use Rattle.mesh_base.specs.declared.address.Address.{Address}
use Rattle.mesh_base.specs.declared.fields.NetFields.{NetFields}
use Rattle.mesh_base.specs.declared.fields.NetMaterial.{NetMaterial}
use Rattle.mesh_base.specs.declared.keys.UpperKey.{UpperKey}
use Rattle.mesh_base.specs.declared.pair.Name.{Name}
use Rattle.mesh_base.specs.declared.pair.Pair.{Pair}
use Rattle.mesh_types.specs.KeyName.{key_name_of}
use Rattle.mesh_types.specs.declared.events.Event.{Event}
use Rattle.mesh_types.specs.declared.events.Event.TheVariants as E
use Rattle.mesh_types.specs.declared.events.SendKey.{SendKey}
use Rattle.mesh_types.specs.declared.jobs.Job.{Job}
use Rattle.mesh_types.specs.declared.jobs.Job.TheVariants as J
use Rattle.mesh_types.specs.declared.jobs.Segment.{Segment}
use Rattle.mesh_types.specs.declared.lines.Outcome.{Outcome}
use Rattle.mesh_types.specs.declared.lines.Outcome.TheVariants as O
use Rattle.event_definitions.specs.Answers.{pair_of}
use Rattle.run_definitions.specs.Seals.{own_fields, own_upper, message_fields, is_app_key, aid_of_key}

-- whether a job is the first segment of a message, which goes under the pair of SeqAuth and draws none
abbrev pub is_first : Job → Bool
is_first (J.Segment s) = s.first
is_first _ = false

-- whether a job draws a pair
abbrev pub is_drawing : Job → Bool
is_drawing (J.Relay material fields) = false
is_drawing (J.Control material ttl src dst tpdu keep) = true
is_drawing (J.Message net material key ttl src dst payload keep) = true
is_drawing (J.Sent net material key ttl src dst) = true
is_drawing (J.Segment s) = not s.first
is_drawing (J.Repeat name pdu) = false
is_drawing (J.Beacon octets) = false

-- whether the pair of a segment is under another IV Index than SeqAuth, or too far above it
abbrev pub is_late : Pair → Pair → Bool
is_late auth p = not (p.iv == auth.iv) || nat_lt (auth.seq + 8191) p.seq

-- a segment of an own message that goes out under a pair
abbrev pub segment_outcome : Segment → Pair → Outcome
segment_outcome s pair =
    O.Seg pair s.ttl s.name.src s.dst s.seg_o s.seg_n s.name.pair.seq
    (net_text s.material (own_fields pair false s.ttl s.name.src s.dst s.tpdu))

-- A line shows the fields of its job and one pair. A payload of at most 11 octets goes unsegmented. The payload of the message that an
-- event asks for is the event's. Where a network PDU goes out, its octets are the text of these fields.
pub data Shows : Event → Job → Outcome → Type 0 where
  shows_ctl : {event : Event} {m : NetMaterial} {ttl : ℕ} {src dst : Address} {tpdu : List ℕ}
      {keep : Option (Address × Bool)} {pair : Pair}
      → Shows event (J.Control m ttl src dst tpdu keep)
      (O.Ctl pair ttl src dst tpdu (net_text m (own_fields pair true ttl src dst tpdu)))
  shows_msg : {event : Event} {net : ℕ} {m : NetMaterial} {key : UpperKey} {ttl : ℕ} {src dst : Address}
      {payload : List ℕ}
      {keep : Option (Address × Bool)} {pair : Pair}
      → length payload ≤ 11
      → Shows event (J.Message net m key ttl src dst payload keep)
      (O.Msg pair ttl src dst (key_name_of key) payload (net_text m (message_fields key pair ttl src dst payload)))
  shows_long : {event : Event} {net : ℕ} {m : NetMaterial} {key : UpperKey} {ttl : ℕ} {src dst : Address}
      {payload : List ℕ}
      {keep : Option (Address × Bool)} {pair : Pair}
      → 11 < length payload
      → Shows event (J.Message net m key ttl src dst payload keep) (O.Long pair ttl src dst (key_name_of key) payload)
  shows_sent : {element hops : ℕ} {at : Address} {with : SendKey} {net : ℕ} {m : NetMaterial} {key : UpperKey} {ttl : ℕ}
      {src dst : Address}
      {payload : List ℕ} {pair : Pair}
      → length payload ≤ 11
      → Shows (E.Send element at hops with payload) (J.Sent net m key ttl src dst)
      (O.Msg pair ttl src dst (key_name_of key) payload (net_text m (message_fields key pair ttl src dst payload)))
  shows_sent_long : {element hops : ℕ} {at : Address} {with : SendKey} {net : ℕ} {m : NetMaterial} {key : UpperKey}
      {ttl : ℕ} {src dst : Address}
      {payload : List ℕ} {pair : Pair}
      → 11 < length payload
      → Shows (E.Send element at hops with payload) (J.Sent net m key ttl src dst)
      (O.Long pair ttl src dst (key_name_of key) payload)
  shows_first : {event : Event} {s : Segment} → s.first ≡ true → Shows event (J.Segment s) (segment_outcome s s.name.pair)
  shows_seg : {event : Event} {s : Segment} {pair : Pair}
      → s.first ≡ false → is_late s.name.pair pair ≡ false → Shows event (J.Segment s) (segment_outcome s pair)
  shows_late : {event : Event} {s : Segment} {pair : Pair}
      → s.first ≡ false → is_late s.name.pair pair ≡ true → Shows event (J.Segment s) (O.Late pair)
  shows_relay : {event : Event} {m : NetMaterial} {f : NetFields}
      → Shows event (J.Relay m f) (O.Relay (pair_of f) f.ctl f.ttl f.src f.dst f.tpdu (net_text m f))
  shows_rep : {event : Event} {name : Name} {octets : List ℕ} → Shows event (J.Repeat name octets) (O.Rep name octets)
  shows_bcn : {event : Event} {octets : List ℕ} → Shows event (J.Beacon octets) (O.Bcn octets)
  shows_spent : {event : Event} {job : Job} {iv : ℕ} → is_drawing job ≡ true → Shows event job (O.Spent iv)

-- the pair that a line draws: each pair shown but that of a first segment and that of another node
abbrev pub drawn_of : Job → Outcome → Option Pair
drawn_of job (O.Ctl pair ttl src dst tpdu pdu) = Some pair
drawn_of job (O.Msg pair ttl src dst key payload pdu) = Some pair
drawn_of job (O.Long pair ttl src dst key payload) = Some pair
drawn_of job (O.Seg pair ttl src dst seg_o seg_n auth pdu) = if is_first job then None else Some pair
drawn_of job (O.Relay pair ctl ttl src dst tpdu pdu) = None
drawn_of job (O.Rep name pdu) = None
drawn_of job (O.Bcn octets) = None
drawn_of job (O.Spent iv) = None
drawn_of job (O.Late pair) = Some pair

-- the segments of a sealed message are to be sent
abbrev pub begin_event : ℕ → UpperKey → Pair → ℕ → Address → Address → List ℕ → Event
begin_event net key pair ttl src dst payload =
    E.Begin
    (record {
      name = record { src = src; pair = pair };
      dst = dst;
      ttl = ttl;
      net = net;
      akf = is_app_key key;
      aid = aid_of_key key;
      upper = own_upper key pair src dst payload;
    })

-- the octets of the answer to a Poll are to be kept
abbrev pub kept_events : Option (Address × Bool) → Address → Pair → List ℕ → List Event
kept_events None src pair octets = []
kept_events (Some poll) src pair octets = E.Kept poll.0 poll.1 (record { src = src; pair = pair }) octets ∷ []

-- the node's own event that follows a line, if any
abbrev pub after_line : Job → Outcome → List Event
after_line (J.Control m ttl src dst tpdu keep) (O.Ctl pair hops from to text octets) = kept_events keep from pair octets
after_line (J.Message net m key ttl src dst payload keep) (O.Msg pair hops from to name text octets) =
    kept_events keep from pair octets
after_line (J.Message net m key ttl src dst payload keep) (O.Long pair hops from to name text) =
    begin_event net key pair hops from to text ∷ []
after_line (J.Sent net m key ttl src dst) (O.Long pair hops from to name text) =
    begin_event net key pair hops from to text ∷ []
after_line _ _ = []
