-- A message that has a name: from the rows of names to its answer.
use Rattle.std.proofs.Common.{◌≡◌, ℕ, Bool, true, false, cond, ◌&&◌, List, [], ◌∷◌, refl, ap, sym, subst, ◌∙◌, Option, Some, None}
use Rattle.std.specs.Prelude.{Err, MatchOption, MatchResult, Ok, Result, fold, unwrap_or}
use Rattle.std.specs.List.{list_any}
use Rattle.std.specs.Option.{option_map, option_or}
use Rattle.layer_definitions.specs.Lower.{is_control}
use Rattle.layer_states.specs.Names.{is_name}
use Rattle.layer_states.specs.Reassembly.{PartCall, after, form_of, release, take_part, is_segment}
use Rattle.layer_states.specs.Reassembly as state
use Rattle.layer_states.specs.declared.reassembly.Assembly.{Assembly}
use Rattle.layer_states.specs.declared.reassembly.Taken.{Taken}
use Rattle.layer_states.specs.declared.reassembly.Taken.TheVariants as T
use Rattle.mesh_base.specs.declared.lower.Lower.{Lower}
use Rattle.mesh_base.specs.declared.lower.Lower.TheVariants.{Access, Control, AccessPart, ControlPart}
use Rattle.mesh_base.specs.declared.pair.Name.{Name}
use Rattle.mesh_hearing.proofs.Groups.{known_parts, known_whole, part_takes, whole_releases, whole_takes}
use Rattle.mesh_hearing.proofs.Newest.{newest_tell}
use Rattle.mesh_hearing.specs.Again.{AreRecorded, newest_of}
use Rattle.mesh_hearing.specs.Below.{IsNamedAs, IsTakenAs, IsWholeAs, StandsBelow, known_answer, own_octets, part_answer, taken_calls, whole_octets}
use Rattle.message_answers.specs.Kinds.{is_known, is_of_part, is_of_whole}
use Rattle.message_answers.specs.declared.whole.Judged.{Judged}
use Rattle.mesh_hearing.specs.Heard.{insight_of}
use Rattle.mesh_hearing.specs.declared.hearing.Hearing.{Hearing}
use Rattle.mesh_reading.specs.Held.{low_in, opening_of, pdu_insight}
use Rattle.mesh_reading.specs.declared.heard.HeardPdu.{HeardPdu}
use Rattle.mesh_reading.specs.declared.heard.HeardPdu.TheVariants as H
use Rattle.mesh_types.specs.declared.answers.Answer.{Answer}
use Rattle.mesh_types.specs.declared.answers.Answer.TheVariants as A
use Rattle.node_layers.proofs.Segments.{node_answers, node_whole}
use Rattle.node_layers.proofs.Steps.{segmented_is_any}
use Rattle.node_layers.specs.Segments.{segment_taken, taken_answer}
use Rattle.node_layers.specs.Steps.{segmented_name, segmented_names}
use Rattle.node_layers.specs.BuiltLayers.{built_layers}
use Rattle.node_layers.specs.ConfiguredLayers.{configured_layers}
use Rattle.node_layers.specs.NodeLayers.{node_layers}
use Rattle.node_layers.specs.Reassembly.{messages, named_calls, octets_after, part_heard}
use Rattle.node_records.specs.Tables.{config_in}
use Rattle.node_records.specs.declared.persist.Persist.{Persist}
use Rattle.event_definitions.specs.Answers.{accepted, config_before, is_again, is_entry, lower_answer, replayed, segment_answer, whole_answer, is_accepted_segmented}
use Rattle.event_definitions.specs.History.{Opening, Past, Reading, Told}
use Rattle.event_definitions.specs.Readings.{IsOpened}
use Rattle.store_definitions.specs.Config.{Config}
use Rattle.store_definitions.specs.Entries.{entry_of}

-- Names accepted from segments.

pub again_is : (past : Past) (n : Name) (has : Bool) (again : List Name) → true ≡ is_entry (entry_of past.records n.src.0) n.pair
    → again ≡ newest_of (segmented_names past.told) → AreRecorded past → has ≡ list_any (is_name n) again → has ≡ is_again past n
again_is past n has again e g r h =
    h
    ∙ ap (λ ns. list_any (is_name n) ns) g
    ∙ newest_tell past.records (config_before past).iv.current n (segmented_names past.told) (sym e) r
    ∙ sym (segmented_is_any past.told n)
    ∙ ap (λ b. b && list_any (λ (t : Told). is_accepted_segmented n t.insight t.entry.answer) past.told) e

-- The calls on the table of messages in progress.

pub known_calls : (now : ℕ) (c : Config) (r : Reading) (low : Lower) (n : Name) (a : Answer) → is_known a ≡ true → named_calls now c r low a (Some n) ≡ []
known_calls now c r (Access akf aid upper) n a e = known_whole a n e
known_calls now c r (Control opcode params) n a e = known_whole a n e
known_calls now c r (AccessPart akf aid szmic seq_zero seg_o seg_n piece) n a e = known_parts a now (part_heard c r n (AccessPart akf aid szmic seq_zero seg_o seg_n piece)) e
known_calls now c r (ControlPart opcode seq_zero seg_o seg_n piece) n a e = known_parts a now (part_heard c r n (ControlPart opcode seq_zero seg_o seg_n piece)) e

pub part_one_call : (now : ℕ) (c : Config) (r : Reading) (low : Lower) (n : Name) (a : Answer) → is_segment low ≡ true → is_of_part a ≡ true
    → named_calls now c r low a (Some n) ≡ taken_calls now c r low n
part_one_call now c r (Access akf aid upper) n a s e = absurd cc
part_one_call now c r (Control opcode params) n a s e = absurd cc
part_one_call now c r (AccessPart akf aid szmic seq_zero seg_o seg_n piece) n a s e = part_takes a now (part_heard c r n (AccessPart akf aid szmic seq_zero seg_o seg_n piece)) e
part_one_call now c r (ControlPart opcode seq_zero seg_o seg_n piece) n a s e = part_takes a now (part_heard c r n (ControlPart opcode seq_zero seg_o seg_n piece)) e

pub whole_call : (now : ℕ) (c : Config) (r : Reading) (low : Lower) (n : Name) (a : Answer) (parts : List Assembly) → is_of_whole a ≡ true
    → fold after parts (named_calls now c r low a (Some n)) ≡ after (fold after parts (taken_calls now c r low n)) (release n)
whole_call now c r (Access akf aid upper) n a parts e = ap (λ cs. fold after parts cs) (whole_releases a n e)
whole_call now c r (Control opcode params) n a parts e = ap (λ cs. fold after parts cs) (whole_releases a n e)
whole_call now c r (AccessPart akf aid szmic seq_zero seg_o seg_n piece) n a parts e =
    ap (λ cs. fold after parts cs) (whole_takes a now (part_heard c r n (AccessPart akf aid szmic seq_zero seg_o seg_n piece)) e)
whole_call now c r (ControlPart opcode seq_zero seg_o seg_n piece) n a parts e =
    ap (λ cs. fold after parts cs) (whole_takes a now (part_heard c r n (ControlPart opcode seq_zero seg_o seg_n piece)) e)

pub taken_one : (now : ℕ) (c : Config) (r : Reading) (low : Lower) (n : Name) (parts : List Assembly) → is_segment low ≡ true
    → after parts (take_part now (part_heard c r n low)) ≡ fold after parts (taken_calls now c r low n)
taken_one now c r low n parts e = ap (λ b. fold after parts (cond b (take_part now (part_heard c r n low) ∷ []) [])) (sym e)

pub taken_none : (now : ℕ) (c : Config) (r : Reading) (low : Lower) (n : Name) (parts : List Assembly) → is_segment low ≡ false
    → parts ≡ fold after parts (taken_calls now c r low n)
taken_none now c r low n parts e = ap (λ b. fold after parts (cond b (take_part now (part_heard c r n low) ∷ []) [])) (sym e)

-- Control messages.

pub control_form : (low : Lower) → is_control low ≡ true → (form_of low).ctl ≡ true
control_form (Access akf aid upper) e = absurd cc
control_form (Control opcode params) e = refl
control_form (AccessPart akf aid szmic seq_zero seg_o seg_n piece) e = absurd cc
control_form (ControlPart opcode seq_zero seg_o seg_n piece) e = refl

-- What becomes of a message that is no replay.

pub alone : (past : Past) (r : Reading) (low : Lower) (n : Name) → is_segment low ≡ false
    → (part_answer past r low n ≡ None) × (own_octets low ≡ whole_octets past n low)
alone past r (Access akf aid upper) n e = (refl, refl)
alone past r (Control opcode params) n e = (refl, refl)
alone past r (AccessPart akf aid szmic seq_zero seg_o seg_n piece) n e = absurd cc
alone past r (ControlPart opcode seq_zero seg_o seg_n piece) n e = absurd cc

of_segment : (past : Past) (r : Reading) (low : Lower) (n : Name) → is_segment low ≡ true → part_answer past r low n ≡ taken_answer (segment_taken past r n low)
of_segment past r low n e = ap (λ b. cond b (segment_answer node_layers past r low n) None) e ∙ node_answers past r n low

whole_of_segment : (past : Past) (low : Lower) (n : Name) (octets : List ℕ) → is_segment low ≡ true → octets ≡ octets_after past n low
    → octets ≡ whole_octets past n low
whole_of_segment past (Access akf aid upper) n octets s e = absurd cc
whole_of_segment past (Control opcode params) n octets s e = absurd cc
whole_of_segment past (AccessPart akf aid szmic seq_zero seg_o seg_n piece) n octets s e = e
whole_of_segment past (ControlPart opcode seq_zero seg_o seg_n piece) n octets s e = e

-- what the table says of a segment is what becomes of it after the past
pub taken_is : (past : Past) (p : Persist) (parts : List Assembly) (again : List Name) (now : ℕ) (r : Reading) (low : Lower) (n : Name)
    → StandsBelow past p parts again now
    → state.taken (state.live now parts) now (part_heard (config_in p) r n low) ≡ segment_taken past r n low
taken_is past p parts again now r low n h =
    ap (λ c. state.taken (state.live now parts) now (part_heard c r n low)) h.meaning.config
    ∙ ap (λ ps. state.taken (state.live now ps) now (part_heard (config_before past) r n low)) h.parts
    ∙ ap (λ k. state.taken (state.live k (messages past)) k (part_heard (config_before past) r n low)) h.now

pub taken_whole : (past : Past) (r : Reading) (low : Lower) (n : Name) (octets : List ℕ) → is_segment low ≡ true
    → segment_taken past r n low ≡ T.Whole octets → (part_answer past r low n ≡ None) × (octets ≡ whole_octets past n low)
unfolding node_layers configured_layers built_layers
taken_whole past r low n octets s e = (of_segment past r low n s ∙ ap taken_answer e, whole_of_segment past low n octets s (sym (node_whole past r n low octets e)))

pub taken_answered : (past : Past) (r : Reading) (low : Lower) (n : Name) (a : Answer) → is_segment low ≡ true
    → taken_answer (segment_taken past r n low) ≡ Some a → part_answer past r low n ≡ Some a
taken_answered past r low n a s e = of_segment past r low n s ∙ e

pub taken_as : (past : Past) (r : Reading) (low : Lower) (n : Name) (t : Taken) (result : Result (List ℕ) Answer) → is_segment low ≡ true
    → t ≡ segment_taken past r n low → MatchResult result (λ octets. t ≡ T.Whole octets) (λ a. taken_answer t ≡ Some a) → IsTakenAs past r low n result
taken_as past r low n t (Ok octets) s e h = taken_whole past r low n octets s (sym e ∙ h)
taken_as past r low n t (Err a) s e h = taken_answered past r low n a s (ap taken_answer (sym e) ∙ h)

-- The answer to a message with a name.

split : (again segment : Bool) (x y : Option Answer)
    → cond (segment && again) (Some A.Again) (option_or x (cond segment y None)) ≡ option_or (cond (segment && again) (Some A.Again) x) (cond segment y None)
split true true x y = refl
split true false x y = refl
split false true x y = refl
split false false x y = refl

lower_is : (past : Past) (r : Reading) (low : Lower) (n : Name)
    → lower_answer node_layers past r low n ≡ option_or (known_answer past low n) (part_answer past r low n)
lower_is past r low n =
    split (is_again past n) (is_segment low) (replayed (entry_of past.records n.src.0) n.pair) (segment_answer node_layers past r low n)

unopened : (past : Past) (r : Reading) (low : Lower) (n : Name) (a : Answer) → lower_answer node_layers past r low n ≡ Some a
    → IsNamedAs past r low (Some n) (record { opened = None; answer = a })
unopened past r low n a e = record {
  opens = subst (λ o. MatchOption o (IsOpened node_layers past r n low None) (λ answer. let none : Option Opening = None in none ≡ None)) (sym e) refl;
  answer = ap (λ o. unwrap_or o (whole_answer node_layers past r low n None)) (sym e);
}

pub named_known : (past : Past) (r : Reading) (low : Lower) (n : Name) (a : Answer) → Some a ≡ known_answer past low n
    → IsNamedAs past r low (Some n) (record { opened = None; answer = a })
named_known past r low n a e = unopened past r low n a (lower_is past r low n ∙ ap (λ o. option_or o (part_answer past r low n)) (sym e))

pub named_part : (past : Past) (r : Reading) (low : Lower) (n : Name) (a : Answer) → None ≡ known_answer past low n → part_answer past r low n ≡ Some a
    → IsNamedAs past r low (Some n) (record { opened = None; answer = a })
named_part past r low n a e f =
    unopened past r low n a (lower_is past r low n ∙ ap (λ o. option_or o (part_answer past r low n)) (sym e) ∙ f)

pub named_whole : (past : Past) (r : Reading) (low : Lower) (n : Name) (j : Judged) → None ≡ known_answer past low n → part_answer past r low n ≡ None
    → IsWholeAs past r low n j → IsNamedAs past r low (Some n) j
named_whole past r low n j e f w =
    let none : lower_answer node_layers past r low n ≡ None =
    lower_is past r low n ∙ ap (λ o. option_or o (part_answer past r low n)) (sym e) ∙ f in
    record {
      opens = subst (λ o. MatchOption o (IsOpened node_layers past r n low (option_map opening_of j.opened)) (λ answer. option_map opening_of j.opened ≡ None)) (sym none) w.opens;
      answer = w.answer ∙ ap (λ o. unwrap_or o (whole_answer node_layers past r low n (option_map opening_of j.opened))) (sym none);
    }

-- the name of a message that was accepted from segments
abbrev segmented_of : Option Lower → Answer → Option Name
segmented_of None a = None
segmented_of (Some low) a = cond (is_segment low) (accepted a) None

pub segmented_by : (pdu : HeardPdu) (a : Answer) → segmented_name (pdu_insight pdu) a ≡ segmented_of (low_in pdu) a
segmented_by H.Reset a = refl
segmented_by H.Unread a = refl
segmented_by (H.Network r) a = refl
segmented_by (H.Lower r low) a = refl
segmented_by (H.Opened r low o) a = refl

pub accepted_is : (h : Hearing) (low : Lower) (o : Option Name) → low_in h.pdu ≡ Some low → is_segment low ≡ true → o ≡ accepted h.answer
    → o ≡ segmented_name (insight_of h) h.answer
accepted_is h low o g s is =
    is ∙ ap (λ b. cond b (accepted h.answer) None) (sym s) ∙ ap (λ l. segmented_of l h.answer) (sym g) ∙ sym (segmented_by h.pdu h.answer)
