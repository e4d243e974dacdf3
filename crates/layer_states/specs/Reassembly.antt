-- Reassembly of segmented messages (Mesh Profile 1.0.1, sections 3.5.3.3 and 3.5.3.4). The state is the list of the messages of which
-- segments were heard, in the order in which they began. Times are ticks of 10 ms.
use Rattle.std.specs.Prelude.{ℕ, ◌+◌, ◌-◌, ◌*◌, ◌^◌, ◌==◌, ◌||◌, ◌&&◌, not, nat_lt, nat_le, Bool, true, false, if◌then◌else◌, List, [], ◌∷◌, ◌++◌, length, take, map, filter, replicate, slice_set, count_by, bytes_eq, fold, Option, Some, None, is_some, is_none, unwrap_or, slice_index_or}
use Rattle.std.specs.List.{flat_map, filter_map, position_or_len}
use Rattle.std.specs.Option.{option_map, option_map_or}
use Rattle.node_limits.specs.declared.TheConstants.{MESSAGES_IN_PROGRESS}
use Rattle.layer_states.specs.Names.{is_name, is_same, is_unicast}
use Rattle.layer_states.specs.declared.reassembly.Assembly.{Assembly}
use Rattle.layer_states.specs.declared.reassembly.DueAck.{DueAck}
use Rattle.layer_states.specs.declared.reassembly.Form.{Form}
use Rattle.layer_states.specs.declared.reassembly.PartHeard.{PartHeard}
use Rattle.layer_states.specs.declared.reassembly.Taken.{Taken}
use Rattle.layer_states.specs.declared.reassembly.Taken.TheVariants.{Waiting, Whole, Conflict, NoRoom}
use Rattle.layer_states.specs.declared.reassembly.Timer.{Timer}
use Rattle.mesh_base.specs.declared.lower.Lower.{Lower}
use Rattle.mesh_base.specs.declared.lower.Lower.TheVariants.{Access, Control, AccessPart, ControlPart}
use Rattle.mesh_base.specs.declared.pair.Name.{Name}

-- What a segment says (3.5.2.2, 3.5.2.4). A PDU that isn't a segment has one piece.

abbrev pub form_of : Lower → Form
form_of (Access akf aid upper) = record { ctl = false; akf = akf; code = aid; szmic = false }
form_of (Control opcode params) = record { ctl = true; akf = false; code = opcode; szmic = false }
form_of (AccessPart akf aid szmic seq_zero seg_o seg_n piece) =
    record { ctl = false; akf = akf; code = aid; szmic = szmic }
form_of (ControlPart opcode seq_zero seg_o seg_n piece) =
    record { ctl = true; akf = false; code = opcode; szmic = false }

abbrev pub seg_o_of : Lower → ℕ
seg_o_of (Access akf aid upper) = 0
seg_o_of (Control opcode params) = 0
seg_o_of (AccessPart akf aid szmic seq_zero seg_o seg_n piece) = seg_o
seg_o_of (ControlPart opcode seq_zero seg_o seg_n piece) = seg_o

abbrev pub seg_n_of : Lower → ℕ
seg_n_of (Access akf aid upper) = 0
seg_n_of (Control opcode params) = 0
seg_n_of (AccessPart akf aid szmic seq_zero seg_o seg_n piece) = seg_n
seg_n_of (ControlPart opcode seq_zero seg_o seg_n piece) = seg_n

abbrev pub piece_of : Lower → List ℕ
piece_of (Access akf aid upper) = []
piece_of (Control opcode params) = []
piece_of (AccessPart akf aid szmic seq_zero seg_o seg_n piece) = piece
piece_of (ControlPart opcode seq_zero seg_o seg_n piece) = piece

abbrev pub is_segment : Lower → Bool
is_segment (Access akf aid upper) = false
is_segment (Control opcode params) = false
is_segment (AccessPart akf aid szmic seq_zero seg_o seg_n piece) = true
is_segment (ControlPart opcode seq_zero seg_o seg_n piece) = true

abbrev pub is_form : Form → Form → Bool
is_form f g = is_same f.ctl g.ctl && is_same f.akf g.akf && f.code == g.code && is_same f.szmic g.szmic

-- The pieces of a message: the list has a place for each SegO from 0 to SegN.

abbrev pub piece_at : List (Option (List ℕ)) → ℕ → Option (List ℕ)
piece_at ps o = slice_index_or ps o None

-- how many are missing
abbrev pub missing_of : List (Option (List ℕ)) → ℕ
missing_of ps = count_by is_none ps

-- the octets of all, in their order
abbrev pub whole_of : List (Option (List ℕ)) → List ℕ
whole_of ps = flat_map (λ p. unwrap_or p []) ps

-- BlockAck: the bit of each piece that was heard, from SegO i on (3.5.2.3.1)
abbrev pub block_from : ℕ → List (Option (List ℕ)) → ℕ
block_from i [] = 0
block_from i (p ∷ ps) = (if is_some p then 2 ^ i else 0) + block_from (i + 1) ps

-- The messages by their names.

-- the place of a message, or the number of all
abbrev pub place_of : Name → List Assembly → ℕ
place_of n rows = position_or_len (λ a. is_name n a.name) rows

abbrev pub is_held : Name → List Assembly → Bool
is_held n rows = nat_lt (place_of n rows) (length rows)

-- a message of which no segment was heard before this one
abbrev pub begun : ℕ → PartHeard → Assembly
begun now h =
    record {
      name = h.name;
      dst = h.dst;
      net = h.net;
      form = form_of h.part;
      pieces = replicate (seg_n_of h.part + 1) None;
      renewed = now;
      timer = None;
    }

abbrev pub message_for : List Assembly → ℕ → PartHeard → Assembly
message_for rows now h = slice_index_or rows (place_of h.name rows) (begun now h)

abbrev pub put_message : ℕ → Assembly → List Assembly → List Assembly
put_message place a rows = if nat_lt place (length rows) then slice_set rows place a else rows ++ a ∷ []

abbrev pub names_of : List Assembly → List Name
names_of rows = map (λ a. a.name) rows

-- A segment and its message.

abbrev pub is_other : Option (List ℕ) → List ℕ → Bool
is_other None piece = false
is_other (Some held) piece = not (bytes_eq held piece)

-- a segment of another DST, network key index, form or SegN, or with another piece under its SegO
abbrev pub is_at_odds : Assembly → PartHeard → Bool
is_at_odds a h =
    not (a.dst.0 == h.dst.0)
    || not (a.net == h.net)
    || not (is_form a.form (form_of h.part))
    || not (length a.pieces == seg_n_of h.part + 1)
    || is_other (piece_at a.pieces (seg_o_of h.part)) (piece_of h.part)

abbrev pub with_piece : List (Option (List ℕ)) → Lower → List (Option (List ℕ))
with_piece ps part =
    if is_some (piece_at ps (seg_o_of part)) then ps else slice_set ps (seg_o_of part) (Some (piece_of part))

-- A new piece of a message to one element starts the acknowledgment timer, if it doesn't run, with 150 + 50 x TTL milliseconds, where TTL
-- is that of the acknowledgment (3.5.3.3).
abbrev pub timer_after : ℕ → Option Timer → PartHeard → Option Timer
timer_after now None h =
    if is_unicast h.dst then Some (record { due = now + 15 + 5 * h.ack_ttl; ttl = h.ack_ttl }) else None
timer_after now (Some t) h = Some t

-- the message with a segment that isn't at odds with it: an equal piece again changes nothing
abbrev pub heard_by : Assembly → ℕ → PartHeard → Assembly
heard_by a now h =
    if is_some (piece_at a.pieces (seg_o_of h.part)) then a
    else record a {
      pieces = slice_set a.pieces (seg_o_of h.part) (Some (piece_of h.part));
      renewed = now;
      timer = timer_after now a.timer h;
    }

-- what becomes of a segment when these are the pieces
abbrev pub outcome : List (Option (List ℕ)) → Taken
outcome ps = if nat_lt 0 (missing_of ps) then Waiting (missing_of ps) else Whole (whole_of ps)

abbrev pub judged : Assembly → ℕ → PartHeard → Taken
judged a now h = if is_at_odds a h then Conflict else outcome (with_piece a.pieces h.part)

abbrev pub judged_after : Assembly → ℕ → PartHeard → Assembly
judged_after a now h = if is_at_odds a h then a else heard_by a now h

-- The whole state.

-- the messages in progress: their last new piece is fewer than 1000 ticks old (the incomplete timer of 10 seconds, 3.5.3.3)
abbrev pub live : ℕ → List Assembly → List Assembly
live now rows = filter (λ a. nat_lt (now - a.renewed) 1000) rows

-- a message that isn't in progress begins while there is a place
abbrev pub has_no_room : Name → List Assembly → Bool
has_no_room n rows = not (is_held n rows) && nat_le MESSAGES_IN_PROGRESS (length rows)

-- what becomes of a segment, over the messages in progress
abbrev pub taken : List Assembly → ℕ → PartHeard → Taken
taken rows now h =
    if has_no_room h.name rows then NoRoom (take MESSAGES_IN_PROGRESS (names_of rows)) else judged (message_for rows now h) now h

-- what it leaves of them; a whole message stays until it is released
abbrev pub noted : List Assembly → ℕ → PartHeard → List Assembly
noted rows now h =
    if has_no_room h.name rows then rows
    else put_message (place_of h.name rows) (judged_after (message_for rows now h) now h) rows

abbrev pub without : Name → List Assembly → List Assembly
without n rows = filter (λ a. not (is_name n a.name)) rows

-- the acknowledgment of a message whose timer ends (3.5.3.4)
abbrev pub ack_of : Assembly → Timer → DueAck
ack_of a t = record { name = a.name; dst = a.dst; net = a.net; ack_ttl = t.ttl; block = block_from 0 a.pieces }

abbrev pub is_due : ℕ → Assembly → Bool
is_due now a = option_map_or (λ t. nat_le t.due now) a.timer false

abbrev pub due_ack : ℕ → Assembly → Option DueAck
due_ack now a = if is_due now a then option_map (ack_of a) a.timer else None

-- a message after its acknowledgment, if that was due
abbrev pub rung : ℕ → Assembly → Assembly
rung now a = if is_due now a then record a { timer = None } else a

abbrev pub acks_due : ℕ → List Assembly → List DueAck
acks_due now rows = filter_map (due_ack now) (live now rows)

-- The calls on the table, and what each leaves of the state: a segment heard at a time, a message that is done, and time that passed.
pub data PartCall : Type 0 where
  take_part : ℕ → PartHeard → PartCall
  release : Name → PartCall
  tick : ℕ → PartCall

abbrev pub after : List Assembly → PartCall → List Assembly
after rows (take_part now h) = noted (live now rows) now h
after rows (release n) = without n rows
after rows (tick now) = map (rung now) (live now rows)

-- the state after a list of calls
abbrev pub in_progress : List PartCall → List Assembly
in_progress calls = fold after [] calls
