-- What an entry leaves of what was heard of a message, and of the message that is held.
use Rattle.std.proofs.Common.{◌≡◌, ℕ, ◌^◌, ◌≤◌, Bool, true, false, cond, not, List, [], ◌∷◌, ◌++◌, refl, ap, sym, subst, ◌∙◌, arith, append_assoc, append-nil, Option, Some, None}
use Rattle.std.specs.List.{fold}
use Rattle.std.specs.Option.{option_map_or}
use Rattle.std.proofs.lemmas.List.Sums.{fold-append}
use Rattle.event_definitions.specs.Answers.{answer_of, config_before, message_name}
use Rattle.event_definitions.specs.Handling.{AreHandled, Handles, IsPast, past_of, records_after}
use Rattle.event_definitions.specs.History.{Insight, OfBeacon, OfNothing, OfPdu, Opening, Past, Reading, Told, now_of, ticks_after}
use Rattle.event_definitions.specs.Readings.{Sees}
use Rattle.event_definitions.specs.Role.{node_role}
use Rattle.layer_states.specs.Names.{is_name}
use Rattle.layer_states.specs.Reassembly.{after, in_progress as all_in_progress, is_segment, live, noted, seg_n_of, seg_o_of, taken, without}
use Rattle.layer_states.specs.declared.reassembly.Assembly.{Assembly}
use Rattle.layer_states.specs.declared.reassembly.PartHeard.{PartHeard}
use Rattle.layer_states.specs.declared.reassembly.Taken.{Taken}
use Rattle.layer_states.specs.declared.reassembly.Taken.TheVariants as T
use Rattle.mesh_base.specs.declared.lower.Lower.{Lower}
use Rattle.mesh_base.specs.declared.pair.Name.{Name}
use Rattle.mesh_types.specs.declared.answers.Answer.{Answer}
use Rattle.mesh_types.specs.declared.answers.Answer.TheVariants as A
use Rattle.mesh_types.specs.declared.events.Event.{Event}
use Rattle.node_layers.proofs.Segments.{node_answers}
use Rattle.node_layers.proofs.Steps.{parts_go_on, time_goes_on}
use Rattle.node_layers.specs.NodeLayers.{node_layers}
use Rattle.node_layers.specs.Reassembly.{calls_from, message_calls, messages, part_calls, part_heard, tick_calls, whole_calls}
use Rattle.node_layers.specs.Segments.{segment_taken, taken_answer}
use Rattle.reassembly_laws.proofs.Answering.{is_row, place_fits, reached, row_said, time_later}
use Rattle.reassembly_laws.proofs.Calls.{Agrees, Held, after_conflict, after_no_room, after_other_release, after_other_segment, after_release, after_tick, after_waiting, noted_distinct}
use Rattle.reassembly_laws.proofs.Rows.{alive, find_name, name_is}
use Rattle.reassembly_laws.specs.Progress.{Piece, after_entry, heard_from, is_done, is_waiting, message_of, segment_of, with_segment}
use Rattle.record_types.specs.declared.records.StoreRecord.{StoreRecord}
use Rattle.store_definitions.specs.Config.{Config, config_of}

-- what an entry of this message leaves of what was heard
abbrev left : ℕ → List Piece → Bool → Answer → List Piece → List Piece
left now ps this answer more = cond (not this) ps (cond (is_done answer) [] (cond (is_waiting answer) more ps))

by_name : (P : Bool → Type 0) (b : Bool) → (b ≡ true → P true) → (b ≡ false → P false) → P b
by_name P true this other = this refl
by_name P false this other = other refl

-- A segment.
module _ (n : Name) (now : ℕ) (rows : List Assembly) (ps : List Piece) (h : PartHeard) (fits : seg_o_of h.part ≤ seg_n_of h.part) (k : Held n now rows ps) where
  abbrev those : List Assembly
  those = live now rows

  abbrev Left : Bool → List Piece → Type 0
  Left b qs = Held n now (noted those now h) (cond (not b) ps qs)

  -- this message
  this_agrees : is_name n h.name ≡ true → Agrees now (alive now (find_name h.name rows)) ps
  this_agrees e = subst (λ m. Agrees now (alive now (find_name m rows)) ps) (name_is n h.name e) k.agrees

  this_held : (qs : List Piece) → is_name n h.name ≡ true → Held h.name now (noted those now h) qs → Held n now (noted those now h) qs
  this_held qs e = subst (λ m. Held m now (noted those now h) qs) (sym (name_is n h.name e))

  other_held : is_name n h.name ≡ false → Held n now (noted those now h) ps
  other_held e = after_other_segment now rows k.distinct h n ps e k.agrees

  waits : (missing : ℕ) → taken those now h ≡ T.Waiting missing → Left (is_name n h.name) (with_segment now ps h)
  waits missing e =
      by_name (λ b. Left b (with_segment now ps h)) (is_name n h.name)
      (λ this. this_held (with_segment now ps h) this (after_waiting now rows k.distinct h fits ps (this_agrees this) missing e)) other_held

  conflicts : taken those now h ≡ T.Conflict → Left (is_name n h.name) ps
  conflicts e =
      by_name (λ b. Left b ps) (is_name n h.name)
      (λ this. this_held ps this (after_conflict now rows k.distinct h fits ps (this_agrees this) e)) other_held

  no_room : (names : List Name) → taken those now h ≡ T.NoRoom names → Left (is_name n h.name) ps
  no_room names e =
      by_name (λ b. Left b ps) (is_name n h.name)
      (λ this. this_held ps this (after_no_room now rows k.distinct h fits ps (this_agrees this) names e)) other_held

  done : Held n now (without h.name (noted those now h)) (cond (not (is_name n h.name)) ps [])
  done =
      by_name (λ b. Held n now (without h.name (noted those now h)) (cond (not b) ps [])) (is_name n h.name)
      (λ this. subst (λ m. Held n now (without m (noted those now h)) []) (name_is n h.name this)
      (after_release n now (noted those now h) (noted_distinct now rows k.distinct h)))
      (λ other. after_other_release n h.name now (noted those now h) ps other (other_held other))

  same : Held n now rows (cond (not (is_name n h.name)) ps ps)
  same = by_name (λ b. Held n now rows (cond (not b) ps ps)) (is_name n h.name) (λ e. k) (λ e. k)

  said_waits : (x : Taken) (missing : ℕ) → taken_answer x ≡ Some (A.Waiting missing) → x ≡ T.Waiting missing
  said_waits (T.Waiting m) missing e = let is : m ≡ missing = cc in ap T.Waiting is
  said_waits (T.Whole octets) missing e = absurd cc
  said_waits T.Conflict missing e = absurd cc
  said_waits (T.NoRoom names) missing e = absurd cc

  said_conflict : (x : Taken) → taken_answer x ≡ Some A.Conflict → x ≡ T.Conflict
  said_conflict (T.Waiting m) e = absurd cc
  said_conflict (T.Whole octets) e = absurd cc
  said_conflict T.Conflict e = refl
  said_conflict (T.NoRoom names) e = absurd cc

  said_no_room : (x : Taken) (names : List Name) → taken_answer x ≡ Some (A.NoRoom names) → x ≡ T.NoRoom names
  said_no_room (T.Waiting m) names e = absurd cc
  said_no_room (T.Whole octets) names e = absurd cc
  said_no_room T.Conflict names e = absurd cc
  said_no_room (T.NoRoom ns) names e = let is : ns ≡ names = cc in ap T.NoRoom is

  segment_step : (answer : Answer) → (is_row answer ≡ true → taken_answer (taken those now h) ≡ Some answer)
      → Held n now (fold after rows (part_calls now h answer)) (left now ps (is_name n h.name) answer (with_segment now ps h))
  segment_step (A.Waiting missing) said = waits missing (said_waits _ missing (said refl))
  segment_step A.Conflict said = conflicts (said_conflict _ (said refl))
  segment_step (A.NoRoom names) said = no_room names (said_no_room _ names (said refl))
  segment_step A.NoKey said = done
  segment_step (A.ListFull held) said = done
  segment_step (A.Delivered name dst key payload) said = done
  segment_step (A.Control name dst opcode params) said = done
  segment_step _ said = same

-- A message that came whole.
module _ (n m : Name) (now : ℕ) (rows : List Assembly) (ps : List Piece) (k : Held n now rows ps) where
  released : Held n now (without m rows) (cond (not (is_name n m)) ps [])
  released =
      by_name (λ b. Held n now (without m rows) (cond (not b) ps [])) (is_name n m)
      (λ this. subst (λ o. Held n now (without o rows) []) (name_is n m this) (after_release n now rows k.distinct))
      (λ other. after_other_release n m now rows ps other k)

  as_before : Held n now rows (cond (not (is_name n m)) ps ps)
  as_before = by_name (λ b. Held n now rows (cond (not b) ps ps)) (is_name n m) (λ e. k) (λ e. k)

  whole_step : (answer : Answer) → Held n now (fold after rows (whole_calls m answer)) (left now ps (is_name n m) answer ps)
  whole_step (A.Waiting missing) = as_before
  whole_step A.NoKey = released
  whole_step (A.ListFull held) = released
  whole_step (A.Delivered name dst key payload) = released
  whole_step (A.Control name dst opcode params) = released
  whole_step _ = as_before

-- An entry.
module _ (past : Past) (event : Event) (answer : Answer) where
  abbrev now : ℕ
  now = now_of past.told

  abbrev rows : List Assembly
  rows = messages past

  abbrev c : Config
  c = config_before past

  abbrev heard : Name → List Piece → Insight → List Piece
  heard n ps i =
      cond (not (option_map_or (is_name n) (message_of i) false)) ps
      (cond (is_done answer) [] (cond (is_waiting answer) (option_map_or (with_segment now ps) (segment_of c i) ps) ps))

  abbrev Steps : Name → List Piece → Insight → Type 0
  Steps n ps i = Held n now (fold after rows (message_calls now c i answer)) (heard n ps i)

  pdu_step : (r : Reading) (low : Lower) (opening : Option Opening) (n : Name) (ps : List Piece) → Sees node_layers past event (OfPdu (Some r) (Some low) opening)
      → answer ≡ answer_of node_layers past event (OfPdu (Some r) (Some low) opening) → Held n now rows ps → Steps n ps (OfPdu (Some r) (Some low) opening)
  pdu_step r low opening n ps sees is k = by_message (message_name r.fields low) refl (is_segment low) refl
    where
      said : (m : Name) → message_name r.fields low ≡ Some m → is_row answer ≡ true → taken_answer (segment_taken past r m low) ≡ Some answer
      said m named row = sym (node_answers past r m low) ∙ row_said past event r low m opening answer sees named is row

      by_message : (o : Option Name) → message_name r.fields low ≡ o → (b : Bool) → is_segment low ≡ b → Steps n ps (OfPdu (Some r) (Some low) opening)
      by_message None named b segment = rw named k
      by_message (Some m) named true segment =
          rw (named, segment)
          (segment_step n now rows ps (part_heard c r m low) (place_fits low segment (reached past event r low opening sees)) k answer (said m named))
      by_message (Some m) named false segment = rw (named, segment) (whole_step n m now rows ps k answer)

  entry_step : (i : Insight) (n : Name) (ps : List Piece) → Sees node_layers past event i → answer ≡ answer_of node_layers past event i → Held n now rows ps → Steps n ps i
  entry_step (OfPdu (Some r) (Some low) opening) n ps sees is k = pdu_step r low opening n ps sees is k
  entry_step (OfPdu (Some r) None opening) n ps sees is k = k
  entry_step (OfPdu None low opening) n ps sees is k = k
  entry_step (OfBeacon b) n ps sees is k = k
  entry_step OfNothing n ps sees is k = k

-- and the time that it tells
tick_step : (n : Name) (now : ℕ) (rows : List Assembly) (ps : List Piece) (answer : Answer) → ((v : ℕ) → answer ≡ A.Ticked v → now ≤ v)
    → Held n now rows ps → Held n (ticks_after now answer) (fold after rows (tick_calls answer)) ps
tick_step n now rows ps (A.Ticked v) later k = after_tick n now v rows ps (later v refl) k
tick_step n now rows ps _ later k = k

-- A past.

pub record Stays (told : List Told) : Type 0 where
  pub wide : now_of told ≤ 2 ^ 48
  pub held : (n : Name) → Held n (now_of told) (all_in_progress (calls_from 0 told)) (heard_from n 0 [] told)

later_wide : (now : ℕ) (answer : Answer) → now ≤ 2 ^ 48 → ((v : ℕ) → answer ≡ A.Ticked v → v ≤ 2 ^ 48) → ticks_after now answer ≤ 2 ^ 48
later_wide now (A.Ticked v) h k = k v refl
later_wide now _ h k = h

heard_more : (n : Name) (now : ℕ) (ps : List Piece) (told : List Told) (t : Told)
    → heard_from n now ps (told ++ t ∷ []) ≡ after_entry n (fold (λ k (u : Told). ticks_after k u.entry.answer) now told) (heard_from n now ps told) t
heard_more n now ps [] t = refl
heard_more n now ps (u ∷ told) t = heard_more n (ticks_after now u.entry.answer) (after_entry n now ps u) told t

one_more : (before : List Told) (t : Told) → Handles (node_role node_layers) (past_of before t) t → Stays before → Stays (before ++ t ∷ [])
one_more before t h s =
    let past : Past = past_of before t in
    let now : ℕ = now_of before in
    let later : (v : ℕ) → t.entry.answer ≡ A.Ticked v → (now ≤ v) × (v ≤ 2 ^ 48) =
    λ v e. time_later node_layers past t.entry.event t.insight v s.wide (sym h.answer ∙ e) in
    let time : now_of (before ++ t ∷ []) ≡ ticks_after now t.entry.answer = time_goes_on before t in
    record {
      wide = subst (λ k. k ≤ 2 ^ 48) (sym time) (later_wide now t.entry.answer s.wide (λ v e. (later v e).1));
      held = λ n.
          let calls : List Assembly = fold after (messages past) (message_calls now (config_of t.records) t.insight t.entry.answer) in
          let step : Held n now calls (after_entry n now (heard_from n 0 [] before) t) =
          entry_step past t.entry.event t.entry.answer t.insight n (heard_from n 0 [] before) h.sees h.answer (s.held n) in
          let ticked : Held n (ticks_after now t.entry.answer) (fold after calls (tick_calls t.entry.answer)) (after_entry n now (heard_from n 0 [] before) t) =
          tick_step n now calls (after_entry n now (heard_from n 0 [] before) t) t.entry.answer (λ v e. (later v e).0) step in
          let rows : all_in_progress (calls_from 0 (before ++ t ∷ [])) ≡ fold after calls (tick_calls t.entry.answer) =
          parts_go_on before t t.records ∙ fold-append after (messages past) (message_calls now (config_of t.records) t.insight t.entry.answer) (tick_calls t.entry.answer) in
          subst (λ k. Held n k (all_in_progress (calls_from 0 (before ++ t ∷ []))) (heard_from n 0 [] (before ++ t ∷ []))) (sym time)
          (subst (λ l. Held n (ticks_after now t.entry.answer) l (heard_from n 0 [] (before ++ t ∷ []))) (sym rows)
          (subst (λ ps. Held n (ticks_after now t.entry.answer) (fold after calls (tick_calls t.entry.answer)) ps) (sym (heard_more n 0 [] before t)) ticked));
    }

all_more : (records : List StoreRecord) (before ts : List Told) → AreHandled (node_role node_layers) records before ts → Stays before → Stays (before ++ ts)
all_more records before [] h s = subst Stays (sym (append-nil before)) s
all_more records before (t ∷ ts) h s =
    subst Stays (append_assoc before (t ∷ []) ts)
    (all_more (records_after (node_role node_layers) (past_of before t) t) (before ++ t ∷ []) ts h.2 (one_more before t h.1 s))

pub past_stays : (past : Past) → IsPast (node_role node_layers) past → Stays past.told
past_stays past h =
    all_more h.over [] past.told h.handled
    (record { wide = omega arith; held = λ n. record { distinct = tt; agrees = refl } })
