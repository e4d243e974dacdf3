-- A message in progress, in the words of the standard (Mesh Profile 1.0.1, sections 3.5.3.3 and 3.5.3.4), over what a life heard. It is told of one
-- message at a time, by what was heard of it since it began; `layer_states` has a list of all messages, and what each call leaves of that.
use Rattle.std.specs.Prelude.{◌≡◌, ◌≢◌, ℕ, ◌+◌, ◌-◌, ◌%◌, ◌^◌, ◌==◌, ◌&&◌, ◌||◌, not, nat_lt, nat_le, Bool, true, false, IsTrue, if◌then◌else◌, List, [], ◌∷◌, length, take, map, count_by, All, AllPairs, Option, Some, None, is_none, unwrap_or}
use Rattle.std.specs.List.{flat_map, list_any, range_with_len}
use Rattle.std.specs.Option.{option_map, option_map_or}
use Rattle.event_definitions.specs.Answers.{config_before, later, message_name, segment_answer}
use Rattle.event_definitions.specs.Handling.{IsPast}
use Rattle.event_definitions.specs.History.{Insight, OfPdu, Past, Reading, Told, now_of, ticks_after}
use Rattle.event_definitions.specs.Role.{node_role}
use Rattle.layer_definitions.specs.Lower.{Fits, acknowledgment, lower_text}
use Rattle.layer_states.specs.Names.{is_name}
use Rattle.layer_states.specs.Reassembly.{block_from, form_of, is_form, is_other, is_segment, piece_of, seg_n_of, seg_o_of}
use Rattle.layer_states.specs.declared.reassembly.PartHeard.{PartHeard}
use Rattle.mesh_base.specs.declared.address.Address.{Address}
use Rattle.mesh_base.specs.declared.fields.NetMaterial.{NetMaterial}
use Rattle.mesh_base.specs.declared.lower.Lower.{Lower}
use Rattle.mesh_base.specs.declared.pair.Name.{Name}
use Rattle.mesh_types.specs.declared.answers.Answer.{Answer}
use Rattle.mesh_types.specs.declared.answers.Answer.TheVariants as A
use Rattle.mesh_types.specs.declared.jobs.Job.{Job}
use Rattle.mesh_types.specs.declared.jobs.Job.TheVariants.{Control}
use Rattle.node_layers.specs.NodeLayers.{node_layers}
use Rattle.node_layers.specs.Reassembly.{part_heard}
use Rattle.node_limits.specs.declared.TheConstants.{MESSAGES_IN_PROGRESS}
use Rattle.store_definitions.specs.Config.{Config, config_of}

-- a new piece of a message, and when it was heard
pub record Piece : Type 0 where
  pub at : ℕ
  pub part : PartHeard

-- What was heard of a message since it began: its new pieces, the latest one first.

-- Each new piece starts the incomplete timer of 10 seconds again (3.5.3.3). Until that ends the message is in progress.
abbrev pub is_open : ℕ → List Piece → Bool
is_open now [] = false
is_open now (p ∷ ps) = nat_lt (now - p.at) 1000

abbrev pub is_heard : List Piece → ℕ → Bool
is_heard ps seg_o = list_any (λ p. seg_o_of p.part.part == seg_o) ps

-- A segment that waits for others begins its message, if that isn't in progress. Else it is one more piece, unless that was heard before.
abbrev pub with_segment : ℕ → List Piece → PartHeard → List Piece
with_segment now ps h =
    if not (is_open now ps) then record { at = now; part = h } ∷ []
    else if is_heard ps (seg_o_of h.part) then ps
    else record { at = now; part = h } ∷ ps

-- What an entry says of a message.

-- the message that a PDU is of, and the segment that it is
abbrev pub message_of : Insight → Option Name
message_of (OfPdu (Some r) (Some low) opening) = message_name r.fields low
message_of _ = None

abbrev pub segment_of : Config → Insight → Option PartHeard
segment_of c (OfPdu (Some r) (Some low) opening) =
    if is_segment low then option_map (λ n. part_heard c r n low) (message_name r.fields low) else None
segment_of c _ = None

abbrev pub is_waiting : Answer → Bool
is_waiting (A.Waiting missing) = true
is_waiting _ = false

-- Nothing is left to do for the message: it was delivered, as an access or a control message; refused, since no key opens it; or out of room in
-- the replay list.
abbrev pub is_done : Answer → Bool
is_done (A.Delivered name dst key payload) = true
is_done (A.Control name dst opcode params) = true
is_done A.NoKey = true
is_done (A.ListFull held) = true
is_done _ = false

abbrev pub after_entry : Name → ℕ → List Piece → Told → List Piece
after_entry n now ps t =
    if not (option_map_or (is_name n) (message_of t.insight) false) then ps
    else if is_done t.entry.answer then []
    else if is_waiting t.entry.answer then option_map_or (with_segment now ps) (segment_of (config_of t.records) t.insight) ps
    else ps

abbrev pub heard_from : Name → ℕ → List Piece → List Told → List Piece
heard_from n now ps [] = ps
heard_from n now ps (t ∷ ts) = heard_from n (ticks_after now t.entry.answer) (after_entry n now ps t) ts

-- The message in progress: what was heard of it since it began, or nothing.
abbrev pub in_progress : Past → Name → List Piece
in_progress past n =
    let ps = heard_from n 0 [] past.told in if is_open (now_of past.told) ps then ps else []

abbrev pub is_in_progress : Past → Name → Bool
is_in_progress past n = is_open (now_of past.told) (in_progress past n)

-- What is answered to a segment.

-- another DST, network key, form or SegN than a piece that was heard
abbrev pub is_of_other_kind : PartHeard → Piece → Bool
is_of_other_kind h p =
    not (p.part.dst.0 == h.dst.0)
    || not (p.part.net == h.net)
    || not (is_form (form_of p.part.part) (form_of h.part))
    || not (seg_n_of p.part.part == seg_n_of h.part)

-- the octets that were heard under a SegO
abbrev pub octets_at : List Piece → ℕ → Option (List ℕ)
octets_at [] seg_o = None
octets_at (p ∷ ps) seg_o = if seg_o_of p.part.part == seg_o then Some (piece_of p.part.part) else octets_at ps seg_o

abbrev pub is_at_odds : List Piece → PartHeard → Bool
is_at_odds ps h = list_any (is_of_other_kind h) ps || is_other (octets_at ps (seg_o_of h.part)) (piece_of h.part)

-- the octets under each SegO from 0 to SegN
abbrev pub all_octets : List Piece → ℕ → List (Option (List ℕ))
all_octets ps seg_n = map (octets_at ps) (range_with_len 0 (seg_n + 1))

abbrev pub missing : List Piece → ℕ → ℕ
missing ps seg_n = count_by is_none (all_octets ps seg_n)

-- the pieces of a message with a segment of it
abbrev pub pieces_with : Past → PartHeard → List Piece
pieces_with past h = with_segment (now_of past.told) (in_progress past h.name) h

abbrev pub answer_in : Past → PartHeard → Option Answer
answer_in past h =
    if not (is_in_progress past h.name) && nat_le MESSAGES_IN_PROGRESS (length (node_layers.in_progress past))
    then Some (A.NoRoom (take MESSAGES_IN_PROGRESS (node_layers.in_progress past)))
    else if is_at_odds (in_progress past h.name) h then Some A.Conflict
    else if nat_lt 0 (missing (pieces_with past h) (seg_n_of h.part))
    then Some (A.Waiting (missing (pieces_with past h) (seg_n_of h.part)))
    else None

-- An acknowledgment goes from the address that the message was sent to, with the bit of each piece that was heard (3.5.2.3.1, 3.5.3.4).
pub record Acknowledges (past : Past) (now : ℕ) (job : Job) : Type 0 where
  pub name : Name
  pub heard : List Piece
  pub since : heard ≡ heard_from name 0 [] past.told
  pub open_still : is_open now heard ≡ true
  pub seg_n : ℕ
  pub dst : Address
  pub pieces : All (λ p. (seg_n_of p.part.part ≡ seg_n) × (p.part.dst.0 ≡ dst.0)) heard
  pub material : NetMaterial
  pub ttl : ℕ
  pub is : job
      ≡ Control material ttl dst name.src
      (lower_text (acknowledgment (name.pair.seq % 2 ^ 13) (block_from 0 (all_octets heard seg_n)))) None

-- The law, of each past of a node.

abbrev pub IsNodePast : Past → Type 0
IsNodePast past = IsPast (node_role node_layers) past

abbrev pub AreInProgressSo : Type 0
AreInProgressSo =
    (past : Past) (n : Name) → IsNodePast past
    → list_any (is_name n) (node_layers.in_progress past) ≡ is_in_progress past n

-- each of them once, so that as many messages are in progress as the list has names
abbrev pub AreInProgressOnce : Type 0
AreInProgressOnce = (past : Past) → IsNodePast past → AllPairs (λ m n. m ≢ n) (node_layers.in_progress past)

-- a segment that gets to reassembly
abbrev pub AreAnsweredSo : Type 0
AreAnsweredSo =
    (past : Past) (r : Reading) (n : Name) (low : Lower) → IsNodePast past → IsTrue (is_segment low) → Fits low
    → segment_answer node_layers past r low n ≡ answer_in past (part_heard (config_before past) r n low)

-- one that is answered by none of these rows makes its message whole
abbrev pub AreWholeSo : Type 0
AreWholeSo =
    (past : Past) (r : Reading) (n : Name) (low : Lower) → IsNodePast past → IsTrue (is_segment low) → Fits low
    → answer_in past (part_heard (config_before past) r n low) ≡ None
    → node_layers.whole past n low
    ≡ flat_map (λ octets. unwrap_or octets [])
    (all_octets (pieces_with past (part_heard (config_before past) r n low)) (seg_n_of low))

-- Each acknowledgment that is due when so many ticks more have passed is of a message in progress then.
abbrev pub AreAcknowledgedSo : Type 0
AreAcknowledgedSo =
    (past : Past) (c : Config) (ticks : ℕ) → IsNodePast past
    → All (Acknowledges past (later past ticks)) (node_layers.acks_due past c ticks)
