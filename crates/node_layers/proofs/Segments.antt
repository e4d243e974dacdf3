-- The answer to a segment by the state of reassembly: place, conflict, what is missing.
use Rattle.std.proofs.Common.{◌≡◌, ℕ, zero, suc, ◌+◌, Bool, true, false, cond, not, ◌&&◌, ◌||◌, ltb, leb, List, [], ◌∷◌, length, take, replicate, refl, ap, arith, Option, Some, None}
use Rattle.std.specs.Prelude.{slice_get, slice_index_or}
use Rattle.std.specs.List.{list_any}
use Rattle.std.specs.Option.{option_map_or}
use Rattle.std.proofs.lemmas.Bool.Decides.{nat_tests}
use Rattle.std.proofs.lemmas.List.{length-map}
use Rattle.layer_states.specs.Names.{is_name}
use Rattle.layer_states.specs.Reassembly.{begun, has_no_room, is_at_odds, is_held, message_for, missing_of, names_of, outcome, place_of, seg_n_of, taken, whole_of, with_piece}
use Rattle.layer_states.specs.declared.reassembly.Assembly.{Assembly}
use Rattle.layer_states.specs.declared.reassembly.PartHeard.{PartHeard}
use Rattle.layer_states.specs.declared.reassembly.Taken.TheVariants as T
use Rattle.mesh_base.specs.declared.pair.Name.{Name}
use Rattle.mesh_types.specs.declared.answers.Answer.TheVariants as A
use Rattle.node_limits.specs.declared.TheConstants.{MESSAGES_IN_PROGRESS}
use Rattle.node_layers.specs.BuiltLayers.{built_layers}
use Rattle.node_layers.specs.ConfiguredLayers.{configured_layers}
use Rattle.node_layers.specs.NodeLayers.{node_layers}
use Rattle.node_layers.specs.Reassembly.{held, part_heard}
use Rattle.node_layers.specs.Segments.{AnswersSegments, HasWhole, taken_answer}
use Rattle.event_definitions.specs.Answers.{config_before}
use Rattle.event_definitions.specs.History.{now_of}

-- a name is among those in progress where its place is before their end
place_step : (b x : Bool) (place size : ℕ) → x ≡ ltb place size → (b || x) ≡ ltb (cond (not b) (1 + place) 0) (suc size)
place_step true x place size e = grind (arith, nat_tests)
place_step false x place size e = grind (arith, nat_tests, e)

held_by_name : (n : Name) (rows : List Assembly) → list_any (is_name n) (names_of rows) ≡ is_held n rows
held_by_name n [] = refl
held_by_name n (a ∷ rows) = place_step (is_name n a.name) _ (place_of n rows) (length rows) (held_by_name n rows)

-- the pieces of the message at a place, or of one that begins
pieces_at : (rows : List Assembly) (place : ℕ) (a : Assembly) → option_map_or (λ (r : Assembly). r.pieces) (slice_get rows place) a.pieces ≡ (slice_index_or rows place a).pieces
pieces_at [] place a = refl
pieces_at (r ∷ rows) zero a = refl
pieces_at (r ∷ rows) (suc place) a = pieces_at rows place a

outcome_answer : (b : Bool) (missing : ℕ) (octets : List ℕ) → cond b (Some (A.Waiting missing)) None ≡ taken_answer (cond b (T.Waiting missing) (T.Whole octets))
outcome_answer true missing octets = refl
outcome_answer false missing octets = refl

by_tests : (full odd : Bool) (names : List Name) (ps : List (Option (List ℕ)))
    → cond full (Some (A.NoRoom names)) (cond odd (Some A.Conflict) (cond (ltb 0 (missing_of ps)) (Some (A.Waiting (missing_of ps))) None))
    ≡ taken_answer (cond full (T.NoRoom names) (cond odd T.Conflict (outcome ps)))
by_tests true odd names ps = refl
by_tests false true names ps = refl
by_tests false false names ps = outcome_answer (ltb 0 (missing_of ps)) (missing_of ps) (whole_of ps)

-- Over any messages in progress.
module _ (rows : List Assembly) (now : ℕ) (h : PartHeard) where
  abbrev pieces : List (Option (List ℕ))
  pieces = with_piece (option_map_or (λ (a : Assembly). a.pieces) (slice_get rows (place_of h.name rows)) (replicate (seg_n_of h.part + 1) None)) h.part

  pieces_are : pieces ≡ with_piece (message_for rows now h).pieces h.part
  pieces_are = ap (λ ps. with_piece ps h.part) (pieces_at rows (place_of h.name rows) (begun now h))

  no_room_is : (not (list_any (is_name h.name) (names_of rows)) && leb MESSAGES_IN_PROGRESS (length (names_of rows))) ≡ has_no_room h.name rows
  no_room_is = rw (held_by_name, length-map) refl

  pub answer_is :
      cond (not (list_any (is_name h.name) (names_of rows)) && leb MESSAGES_IN_PROGRESS (length (names_of rows))) (Some (A.NoRoom (take MESSAGES_IN_PROGRESS (names_of rows))))
      (cond (is_at_odds (message_for rows now h) h) (Some A.Conflict)
      (cond (ltb 0 (missing_of pieces)) (Some (A.Waiting (missing_of pieces))) None))
      ≡ taken_answer (taken rows now h)
  answer_is =
      rw (no_room_is, pieces_are)
      (by_tests (has_no_room h.name rows) (is_at_odds (message_for rows now h) h) (take MESSAGES_IN_PROGRESS (names_of rows)) (with_piece (message_for rows now h).pieces h.part))

  pub octets_are : (octets : List ℕ) → taken rows now h ≡ T.Whole octets → whole_of pieces ≡ octets
  octets_are octets e =
      rw pieces_are (whole_by (has_no_room h.name rows) (is_at_odds (message_for rows now h) h) (take MESSAGES_IN_PROGRESS (names_of rows)) (with_piece (message_for rows now h).pieces h.part) octets e)
    where
      outcome_whole : (b : Bool) (missing : ℕ) (all octets : List ℕ) → cond b (T.Waiting missing) (T.Whole all) ≡ T.Whole octets → all ≡ octets
      outcome_whole true missing all octets e = cc
      outcome_whole false missing all octets e = cc

      whole_by : (full odd : Bool) (names : List Name) (ps : List (Option (List ℕ))) (octets : List ℕ)
          → cond full (T.NoRoom names) (cond odd T.Conflict (outcome ps)) ≡ T.Whole octets → whole_of ps ≡ octets
      whole_by true odd names ps octets e = cc
      whole_by false true names ps octets e = cc
      whole_by false false names ps octets e = outcome_whole (ltb 0 (missing_of ps)) (missing_of ps) (whole_of ps) octets e

-- So of the layers.

pub built_answers : AnswersSegments built_layers
unfolding built_layers
built_answers past r n low = answer_is (held past) (now_of past.told) (part_heard (config_before past) r n low)

pub built_whole : HasWhole built_layers
unfolding built_layers
built_whole past r n low octets e = octets_are (held past) (now_of past.told) (part_heard (config_before past) r n low) octets e

pub node_answers : AnswersSegments node_layers
unfolding node_layers configured_layers
node_answers = built_answers

pub node_whole : HasWhole node_layers
unfolding node_layers configured_layers
node_whole = built_whole
