-- Stop marks of bearers, and those of the node.
use Rattle.std.proofs.Common.{◌≡◌, ◌≢◌, ◌∙◌, ℕ, zero, suc, ◌+◌, ◌<◌, ◌⊎◌, inl, inr, ⊎_elim, Bool, true, false, true≢false, List, [], ◌∷◌, ◌++◌, length, map, Option, Some, refl, sym, ap, subst, arith, append-nil}
use Rattle.std.specs.Prelude.{slice_index_or}
use Rattle.std.specs.List.{Contains, enumerate_from, filter}
use Rattle.std.proofs.lemmas.List.{length-map}
use Rattle.std.proofs.lemmas.List.Elements.{Contains-append_right}
use Rattle.mesh_types.specs.declared.events.Event.{Event}
use Rattle.mesh_types.specs.declared.history.Entry.{Entry}
use Rattle.machine_contract.specs.declared.answers.Stop.{Stop}
use Rattle.machine_contract.specs.declared.answers.Stop.TheVariants as S
use Rattle.report_definitions.specs.Record.{list_at}
use Rattle.run_definitions.specs.Order.{Placed, handle}
use Rattle.seq_word.specs.Seen.{DrawerView}
use Rattle.turn_lock.specs.Entries.{added}
use Rattle.turn_lock.proofs.Kept.{kept_at}
use Rattle.locked_node.specs.declared.marks.Mark.{Mark}
use Rattle.locked_node.specs.declared.marks.Mark.TheVariants as M
use Rattle.locked_node.specs.Node.{NodeView, OnStop, event_in, handled_marks, node_marks, rest_words, stop_marks}
use Rattle.node_bearer.specs.Did.{AreMarksAt, BearerOf, Broke}
use Rattle.node_phase.specs.declared.bearers.Done.{Done}
use Rattle.node_phase.specs.Part.{AreThrough}
use Rattle.node_phase.specs.Worked.{WasPhase, done_of, own_of}
use Rattle.node_phase.proofs.Parting.{first_of, index_map}
use Rattle.life_laws.specs.Stopped.{HasStopped}
use Rattle.life_laws.proofs.Placing.{CameTo, came_to}

abbrev pub is_stop : ℕ × Mark → Bool
is_stop (at, M.Handled e behind) = false
is_stop (at, M.Stopped hand) = true

no_stop : (own : List (ℕ × Mark)) (ps : List Placed) → AreMarksAt own ps → filter is_stop own ≡ []
no_stop [] [] h = refl
no_stop [] (p ∷ ps) h = absurd h
no_stop (x ∷ own) [] h = absurd h
no_stop (x ∷ own) (p ∷ ps) (behind, is, rest) = ap (λ y. filter is_stop (y ∷ own)) is ∙ no_stop own ps rest

-- a list with a stop mark keeps something
some_stop : (n : ℕ) (es : List Entry) (ms cs : List ℕ) (k : ℕ) (event : Option Event) → filter is_stop (enumerate_from n (handled_marks es ms cs ++ stop_marks (suc k) event)) ≡ [] → ⊥
some_stop n [] ms cs k event h = cc
some_stop n (e ∷ es) ms cs k event h = some_stop (n + 1) es (rest_words ms) (rest_words cs) k event h

handled_only : (n : ℕ) (es : List Entry) (ms cs : List ℕ) (at : ℕ) (hand : Option Event) → Contains (enumerate_from n (handled_marks es ms cs)) (at, M.Stopped hand) → ⊥
handled_only n [] ms cs at hand (k, lt, e) = absurd (omega (arith, lt))
handled_only n (x ∷ es) ms cs at hand (zero, lt, e) = true≢false (sym (ap is_stop e))
handled_only n (x ∷ es) ms cs at hand (suc k, lt, e) = handled_only (n + 1) es (rest_words ms) (rest_words cs) at hand (k, omega (arith, lt), e)

get_or-default : {A : Type 0} (xs : List A) (k : ℕ) (d e : A) → k < length xs → slice_index_or xs k d ≡ slice_index_or xs k e
get_or-default [] k d e lt = absurd (omega (arith, lt))
get_or-default (x ∷ xs) zero d e lt = refl
get_or-default (x ∷ xs) (suc k) d e lt = get_or-default xs k d e (omega (arith, lt))

module _ {F : Type 0} (old new : NodeView F) (d e : DrawerView) (events : List (List Event)) (counts : List ℕ) (dones : List Done)
    (w : WasPhase old new d e events counts dones) (none : old.stops ≡ 0) where
  abbrev came : CameTo old new
  came = came_to old new none w.front

  dones_long : length dones ≡ length w.bearers
  dones_long = ap length w.left ∙ length-map w.bearers done_of

  done_at : (k : ℕ) (b : BearerOf F) → k < length w.bearers → slice_index_or dones k (done_of b) ≡ done_of (slice_index_or w.bearers k b)
  done_at k b lt = ap (λ xs. slice_index_or xs k (done_of b)) w.left ∙ index_map done_of w.bearers k b (done_of b) lt

  -- a bearer that didn't stop has no stop mark
  quiet : AreThrough dones → (k : ℕ) (b : BearerOf F) → k < length w.bearers → filter is_stop (slice_index_or w.bearers k b).pass.own ≡ []
  quiet through k b lt =
      let stop = sym (ap (λ x. x.stop) (done_at k b lt)) ∙ through k (done_of b) (omega (arith, lt, dones_long)) in
      let did = (w.worked k b (omega (arith, lt, w.long))).did stop in
      no_stop (slice_index_or w.bearers k b).pass.own did.entries did.own_are

  abbrev lists : List (List (ℕ × Mark))
  lists = [] ∷ map own_of w.bearers

  lists_long : length lists ≡ suc (length w.bearers)
  lists_long = ap suc (length-map w.bearers own_of)

  quiet_lists : AreThrough dones → (j : ℕ) → j < length lists → j ≢ 0 → filter is_stop (slice_index_or lists j []) ≡ []
  quiet_lists through zero lt n = absurd (n refl)
  quiet_lists through (suc j) lt n =
      let within : j < length w.bearers = omega (arith, lt, lists_long) in
      let b = first_of w.bearers j within in
      ap (filter is_stop) (index_map own_of w.bearers j b [] within) ∙ quiet through j b within

  none_by : AreThrough dones → (k : ℕ) → new.stops ≡ k → new.stops ≡ 0
  none_by through zero is = is
  none_by through (suc k) is =
      let kept : filter is_stop (added (node_marks old) (node_marks new)) ≡ [] = w.kept is_stop [] (kept_at is_stop 0 lists [] [] (omega (arith, lists_long)) refl (quiet_lists through)) in
      let marks = came.marks ∙ ap (λ n. enumerate_from (length old.machine.entries) (handled_marks came.more came.moves came.counters ++ stop_marks n (event_in new.machine.hand))) is in
      absurd (some_stop (length old.machine.entries) came.more came.moves came.counters k (event_in new.machine.hand) (ap (filter is_stop) (sym marks) ∙ kept))

  pub none_stopped : AreThrough dones → new.stops ≡ 0
  none_stopped through = none_by through new.stops refl

  -- the mark of a bearer that stopped is one of the node's
  some_by : (k : ℕ) → new.stops ≡ k → (j : ℕ) (b : BearerOf F) → j < length w.bearers → (at : ℕ) (hand : Option Event) (before : List (ℕ × Mark))
      → (slice_index_or w.bearers j b).pass.own ≡ before ++ (at, M.Stopped hand) ∷ [] → 0 < new.stops
  some_by (suc k) is j b lt at hand before own = omega (arith, is)
  some_by zero is j b lt at hand before own =
      let mine = subst (λ l. Contains l (at, M.Stopped hand)) (sym own) (Contains-append_right before ((at, M.Stopped hand) ∷ []) (at, M.Stopped hand) (0, omega arith, refl)) in
      let here = (w.holds j b lt).has (at, M.Stopped hand) mine in
      let marks = came.marks ∙ ap (λ n. enumerate_from (length old.machine.entries) (handled_marks came.more came.moves came.counters ++ stop_marks n (event_in new.machine.hand))) is
      ∙ ap (enumerate_from (length old.machine.entries)) (append-nil (handled_marks came.more came.moves came.counters)) in
      absurd (handled_only (length old.machine.entries) came.more came.moves came.counters at hand (subst (λ l. Contains l (at, M.Stopped hand)) marks here))

  stopped_at : (j : ℕ) (b : BearerOf F) → j < length w.bearers → (s : Stop) → (slice_index_or w.bearers j b).stop ≡ Some s → OnStop s (Broke j (slice_index_or w.before j b).number (map handle (list_at events j)) (slice_index_or w.bearers j b)) → (s ≡ S.Closed) ⊎ (s ≡ S.Flash) → 0 < new.stops
  stopped_at j b lt S.Closed is broke cause = some_by new.stops refl j b lt broke.is.at broke.is.hand broke.is.before broke.is.own
  stopped_at j b lt S.Memory is broke cause = absurd (⊎_elim (λ h. let bad : S.Memory ≡ S.Closed = h in cc) (λ h. let bad : S.Memory ≡ S.Flash = h in cc) cause)
  stopped_at j b lt S.Flash is broke cause = some_by new.stops refl j b lt broke.is.at broke.is.hand broke.is.before broke.is.own

  pub some_stopped : HasStopped dones → 0 < new.stops
  some_stopped h =
      let j = h.among.0 in
      let lt : j < length w.bearers = omega (arith, h.among.1, dones_long) in
      let b = first_of w.bearers j lt in
      let at : slice_index_or dones j (done_of b) ≡ h.done = get_or-default dones j (done_of b) h.done h.among.1 ∙ h.among.2 in
      let stop : (slice_index_or w.bearers j b).stop ≡ h.done.stop = sym (ap (λ x. x.stop) (done_at j b lt)) ∙ ap (λ x. x.stop) at in
      let worked = w.worked j b (omega (arith, lt, w.long)) in
      ⊎_elim (λ c. stopped_at j b lt S.Closed (stop ∙ c) (worked.broke S.Closed (stop ∙ c)) (inl refl)) (λ c. stopped_at j b lt S.Flash (stop ∙ c) (worked.broke S.Flash (stop ∙ c)) (inr refl)) h.cause
