-- The law of each past.
use Rattle.std.proofs.Common.{◌≡◌, ◌≢◌, ℕ, ◌≤◌, Bool, true, false, cond, not, ◌&&◌, ◌||◌, ltb, leb, List, [], ◌∷◌, take, length, refl, ap, sym, subst, ◌∙◌, arith, Option, Some, None, is_some, true≢false}
use Rattle.std.specs.Prelude.{IsTrue}
use Rattle.std.specs.List.{AllByRecursion as Every, AllPairs, list_any}
use Rattle.std.proofs.lemmas.List.{length-map}
use Rattle.std.proofs.lemmas.List.Elements.{All-from_recursion}
use Rattle.std.proofs.lemmas.List.Kept.{AllPairs-cons}
use Rattle.event_definitions.specs.Answers.{config_before}
use Rattle.event_definitions.specs.History.{Past, Reading, now_of}
use Rattle.layer_definitions.specs.Lower.{Fits}
use Rattle.layer_states.specs.Names.{is_name}
use Rattle.layer_states.specs.Reassembly.{has_no_room, is_at_odds as is_at_odds_in, is_segment, message_for, missing_of, names_of, outcome, seg_n_of, seg_o_of, whole_of, with_piece}
use Rattle.layer_states.specs.declared.reassembly.Assembly.{Assembly}
use Rattle.layer_states.specs.declared.reassembly.PartHeard.{PartHeard}
use Rattle.layer_states.specs.declared.reassembly.Taken.TheVariants as T
use Rattle.mesh_base.specs.declared.lower.Lower.{Lower}
use Rattle.mesh_base.specs.declared.pair.Name.{Name}
use Rattle.mesh_types.specs.declared.answers.Answer.{Answer}
use Rattle.mesh_types.specs.declared.answers.Answer.TheVariants as A
use Rattle.node_layers.proofs.Segments.{node_answers, node_whole}
use Rattle.node_layers.specs.BuiltLayers.{built_layers}
use Rattle.node_layers.specs.ConfiguredLayers.{configured_layers}
use Rattle.node_layers.specs.NodeLayers.{node_layers}
use Rattle.node_layers.specs.Reassembly.{held, messages, names_in_progress, part_heard}
use Rattle.node_layers.specs.Segments.{segment_taken, taken_answer}
use Rattle.node_limits.specs.declared.TheConstants.{MESSAGES_IN_PROGRESS}
use Rattle.reassembly_laws.proofs.Answering.{place_fits}
use Rattle.reassembly_laws.proofs.Calls.{Agrees, current, odds_said, pieces_said}
use Rattle.reassembly_laws.proofs.Entries.{Stays, past_stays}
use Rattle.reassembly_laws.proofs.Rows.{Absent, Distinct, alive, distinct_live, find_live, find_name, held_is, same_name}
use Rattle.reassembly_laws.specs.Progress.{AreAnsweredSo, AreInProgressOnce, AreWholeSo, IsNodePast, Piece, all_octets, answer_in, heard_from, in_progress, is_at_odds, is_in_progress, is_open, pieces_with}

-- The names in progress.

in_progress_are : (past : Past) → node_layers.in_progress past ≡ names_in_progress past
unfolding node_layers configured_layers built_layers
in_progress_are past = refl

named_is : (n : Name) (rows : List Assembly) → list_any (is_name n) (names_of rows) ≡ is_some (find_name n rows)
named_is n [] = refl
named_is n (a ∷ rows) = step (is_name n a.name) (named_is n rows)
  where
    step : (b : Bool) → list_any (is_name n) (names_of rows) ≡ is_some (find_name n rows)
        → (b || list_any (is_name n) (names_of rows)) ≡ is_some (cond b (Some a) (find_name n rows))
    step true e = refl
    step false e = e

agrees_open : (now : ℕ) (o : Option Assembly) (ps : List Piece) → Agrees now o ps → is_some o ≡ is_open now ps
agrees_open now None ps h = sym h
agrees_open now (Some a) ps h = sym h.1

open_current : (now : ℕ) (ps : List Piece) → is_open now (current now ps) ≡ is_open now ps
open_current now ps = test (is_open now ps) refl
  where
    test : (b : Bool) → is_open now ps ≡ b → is_open now (cond b ps []) ≡ b
    test true e = e
    test false e = refl

module _ (past : Past) (h : IsNodePast past) where
  abbrev now : ℕ
  now = now_of past.told

  abbrev heard : Name → List Piece
  heard n = heard_from n 0 [] past.told

  stays : Stays past.told
  stays = past_stays past h

  distinct : Distinct (messages past)
  distinct = (stays.held (record { src = record { 0 = 0 }; pair = record { iv = 0; seq = 0 } })).distinct

  agrees : (n : Name) → Agrees now (alive now (find_name n (messages past))) (heard n)
  agrees n = (stays.held n).agrees

  held_open : (n : Name) → is_some (find_name n (held past)) ≡ is_in_progress past n
  held_open n =
      ap (λ o. is_some o) (find_live n now (messages past) distinct) ∙ agrees_open now _ (heard n) (agrees n) ∙ sym (open_current now (heard n))

  pub progress : (n : Name) → list_any (is_name n) (node_layers.in_progress past) ≡ is_in_progress past n
  progress n = ap (list_any (is_name n)) (in_progress_are past) ∙ named_is n (held past) ∙ held_open n

  -- a segment
  module _ (r : Reading) (n : Name) (low : Lower) (segment : IsTrue (is_segment low)) (fits : Fits low) where
    abbrev part : PartHeard
    part = part_heard (config_before past) r n low

    in_place : seg_o_of low ≤ seg_n_of low
    in_place = place_fits low segment fits

    odds : is_at_odds_in (message_for (held past) now part) part ≡ is_at_odds (in_progress past n) part
    odds = odds_said now (messages past) distinct part in_place (heard n) (agrees n)

    pieces : is_at_odds (in_progress past n) part ≡ false
        → with_piece (message_for (held past) now part).pieces low ≡ all_octets (pieces_with past part) (seg_n_of low)
    pieces e = pieces_said now (messages past) distinct part in_place (heard n) (agrees n) e

    -- no room
    abbrev is_full : Bool
    is_full = not (is_in_progress past n) && leb MESSAGES_IN_PROGRESS (length (node_layers.in_progress past))

    full : has_no_room n (held past) ≡ is_full
    full =
        ap (λ b. not b && leb MESSAGES_IN_PROGRESS (length (held past))) (held_is n (held past) ∙ held_open n)
        ∙ ap (λ k. not (is_in_progress past n) && leb MESSAGES_IN_PROGRESS k)
        (sym (ap (λ (l : List Name). length l) (in_progress_are past) ∙ length-map (held past) (λ (a : Assembly). a.name)))

    abbrev answer_by : Bool → Bool → List Name → List (Option (List ℕ)) → Option Answer
    answer_by f o names ps =
        cond f (Some (A.NoRoom (take MESSAGES_IN_PROGRESS names)))
        (cond o (Some A.Conflict) (cond (ltb 0 (missing_of ps)) (Some (A.Waiting (missing_of ps))) None))

    said : taken_answer (segment_taken past r n low)
        ≡ answer_by (has_no_room n (held past)) (is_at_odds_in (message_for (held past) now part) part) (names_of (held past)) (with_piece (message_for (held past) now part).pieces low)
    said = by_tests (has_no_room n (held past)) (is_at_odds_in (message_for (held past) now part) part) (names_of (held past)) (with_piece (message_for (held past) now part).pieces low)
      where
        by_missing : (b : Bool) (k : ℕ) (octets : List ℕ) → taken_answer (cond b (T.Waiting k) (T.Whole octets)) ≡ cond b (Some (A.Waiting k)) None
        by_missing true k octets = refl
        by_missing false k octets = refl

        by_tests : (f o : Bool) (names : List Name) (ps : List (Option (List ℕ)))
            → taken_answer (cond f (T.NoRoom (take MESSAGES_IN_PROGRESS names)) (cond o T.Conflict (outcome ps))) ≡ answer_by f o names ps
        by_tests true o names ps = refl
        by_tests false true names ps = refl
        by_tests false false names ps = by_missing (ltb 0 (missing_of ps)) (missing_of ps) (whole_of ps)

    by_pieces : (o : Bool) (f : Bool) (names : List Name) (ps qs : List (Option (List ℕ))) → (o ≡ false → ps ≡ qs) → answer_by f o names ps ≡ answer_by f o names qs
    by_pieces true f names ps qs h = refl
    by_pieces false f names ps qs h = ap (answer_by f false names) (h refl)

    answer_said : taken_answer (segment_taken past r n low) ≡ answer_in past part
    answer_said =
        said
        ∙ ap (λ f. answer_by f (is_at_odds_in (message_for (held past) now part) part) (names_of (held past)) (with_piece (message_for (held past) now part).pieces low)) full
        ∙ ap (λ o. answer_by is_full o (names_of (held past)) (with_piece (message_for (held past) now part).pieces low)) odds
        ∙ ap (λ l. answer_by is_full (is_at_odds (in_progress past n) part) l (with_piece (message_for (held past) now part).pieces low)) (sym (in_progress_are past))
        ∙ by_pieces (is_at_odds (in_progress past n) part) is_full (node_layers.in_progress past) (with_piece (message_for (held past) now part).pieces low) (all_octets (pieces_with past part) (seg_n_of low)) pieces

    -- whole
    whole_taken : answer_in past part ≡ None
        → segment_taken past r n low ≡ T.Whole (whole_of (all_octets (pieces_with past part) (seg_n_of low)))
    whole_taken e =
        by_tests (has_no_room n (held past)) (is_at_odds_in (message_for (held past) now part) part) (names_of (held past)) (with_piece (message_for (held past) now part).pieces low)
        (λ odd. pieces (sym odds ∙ odd)) (sym said ∙ answer_said ∙ e)
      where
        by_missing : (b : Bool) (k : ℕ) (octets : List ℕ) → cond b (Some (A.Waiting k)) None ≡ None → cond b (T.Waiting k) (T.Whole octets) ≡ T.Whole octets
        by_missing true k octets e = absurd cc
        by_missing false k octets e = refl

        by_tests : (f o : Bool) (names : List Name) (ps : List (Option (List ℕ))) → (o ≡ false → ps ≡ all_octets (pieces_with past part) (seg_n_of low))
            → answer_by f o names ps ≡ None
            → cond f (T.NoRoom (take MESSAGES_IN_PROGRESS names)) (cond o T.Conflict (outcome ps)) ≡ T.Whole (whole_of (all_octets (pieces_with past part) (seg_n_of low)))
        by_tests true o names ps h e = absurd cc
        by_tests false true names ps h e = absurd cc
        by_tests false false names ps h e =
            by_missing (ltb 0 (missing_of ps)) (missing_of ps) (whole_of ps) e ∙ ap (λ l. T.Whole (whole_of l)) (h refl)

-- Each once.

apart : (rows : List Assembly) → Distinct rows → AllPairs (λ m n. m ≢ n) (names_of rows)
apart [] h = λ i j d lt le. absurd (omega arith)
apart (a ∷ rows) h = AllPairs-cons (λ m n. m ≢ n) a.name (names_of rows) (All-from_recursion (λ n. a.name ≢ n) (names_of rows) (others rows h.0)) (apart rows h.1)
  where
    itself : (n : Name) → is_name n n ≡ true
    itself n = same_name n

    others : (rows : List Assembly) → Absent a.name rows → Every (λ n. a.name ≢ n) (names_of rows)
    others [] k = tt
    others (b ∷ bs) k = (λ e. true≢false (sym (itself a.name) ∙ ap (is_name a.name) e ∙ k.0), others bs k.1)

pub once : AreInProgressOnce
once past h = subst (λ l. AllPairs (λ m n. m ≢ n) l) (sym (in_progress_are past)) (apart (held past) (distinct_live (now_of past.told) (messages past) (distinct past h)))

pub answers : AreAnsweredSo
answers past r n low h segment fits = node_answers past r n low ∙ answer_said past h r n low segment fits

pub wholes : AreWholeSo
wholes past r n low h segment fits e = node_whole past r n low _ (whole_taken past h r n low segment fits e)
