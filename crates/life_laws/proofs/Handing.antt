-- The event in hand of a node whose flash failed is the next of some bearer, which has written all lines before it.
use Rattle.std.proofs.Common.{◌≡◌, ◌≢◌, ◌∙◌, ℕ, zero, suc, ◌+◌, ◌<◌, ◌≤◌, ◌⊎◌, inl, inr, ⊎_elim, Bool, true, false, true≢false, List, [], ◌∷◌, ◌++◌, length, map, Option, Some, None, refl, sym, ap, subst, arith, append-nil, length-append}
use Rattle.std.specs.Prelude.{◌==◌, replicate, slice_index_or}
use Rattle.std.specs.List.{Contains, enumerate_from, filter, slice_get}
use Rattle.std.proofs.lemmas.Grind.{flat_map-append}
use Rattle.std.proofs.lemmas.List.{length-map, map-append}
use Rattle.std.proofs.lemmas.List.Elements.{Contains-append_right, filter-append}
use Rattle.mesh_types.specs.declared.events.Event.{Event}
use Rattle.mesh_types.specs.declared.history.Entry.{Entry}
use Rattle.mesh_types.specs.declared.history.Sent.{Sent}
use Rattle.machine_contract.specs.declared.answers.Stop.{Stop}
use Rattle.machine_contract.specs.declared.answers.Stop.TheVariants as S
use Rattle.report_definitions.specs.Record.{list_at}
use Rattle.run_definitions.specs.Order.{Does, Part, PartsOf, Placed, Walks, broken, ends, handle, is_outside, of_bearer, whole}
use Rattle.seq_word.specs.Seen.{DrawerView}
use Rattle.turn_lock.specs.Entries.{added}
use Rattle.turn_lock.proofs.Kept.{kept_at}
use Rattle.locked_node.specs.declared.marks.Mark.{Mark}
use Rattle.locked_node.specs.declared.marks.Mark.TheVariants as M
use Rattle.locked_node.specs.Node.{NodeView, event_in, handled_marks, node_marks, rest_words, stop_marks}
use Rattle.node_bearer.specs.Did.{AreMarksAt, BearerOf, Broke, IsNext}
use Rattle.node_bearer.proofs.Lists.{get_longer}
use Rattle.node_phase.specs.declared.bearers.Done.{Done}
use Rattle.node_phase.specs.Part.{AreThrough, HadMemory, lines_of, part_of}
use Rattle.node_phase.specs.Worked.{WasPhase, Worked, done_of, own_of}
use Rattle.node_phase.proofs.Mine.{is_by, keep_mine, placed_marks, stop_dropped}
use Rattle.node_phase.proofs.Parting.{entries_at, index_map, list_at_map, part_at, parts_of_phase}
use Rattle.life_laws.specs.Hands.{AreHandledAll, HandComes, IsInHand, IsNextIn, events_of, here, later, outs}
use Rattle.life_laws.specs.Phases.{AreDone, both_of, entries_by}
use Rattle.life_laws.proofs.Ordering.{all_parts, fall_more}
use Rattle.life_laws.proofs.Placing.{CameTo, came_to, less_or, of_bearer_from}
use Rattle.life_laws.proofs.Walking.{next_out, next_task, outs_all}

outs_append : (xs ys : List Entry) → outs (xs ++ ys) ≡ outs xs ++ outs ys
outs_append xs ys = ap (filter is_outside) (map-append (λ (e : Entry). e.event) xs ys) ∙ filter-append is_outside (map (λ (e : Entry). e.event) xs) (map (λ (e : Entry). e.event) ys)

get_shift : {A : Type 0} (xs ys : List A) (m : ℕ) → slice_get (xs ++ ys) (length xs + m) ≡ slice_get ys m
get_shift [] ys m = ap (slice_get ys) (omega arith)
get_shift (x ∷ xs) ys m = let one : suc (length xs) + m ≡ suc (length xs + m) = omega arith in ap (slice_get (x ∷ (xs ++ ys))) one ∙ get_shift xs ys m

abbrev has_event : ℕ × Mark → Bool
has_event (at, M.Handled e behind) = false
has_event (at, M.Stopped None) = false
has_event (at, M.Stopped (Some event)) = true

no_event : (own : List (ℕ × Mark)) (ps : List Placed) → AreMarksAt own ps → filter has_event own ≡ []
no_event [] [] h = refl
no_event [] (p ∷ ps) h = absurd h
no_event (x ∷ own) [] h = absurd h
no_event (x ∷ own) (p ∷ ps) (behind, is, rest) = ap (λ y. filter has_event (y ∷ own)) is ∙ no_event own ps rest

some_event : (n : ℕ) (es : List Entry) (ms cs : List ℕ) (k : ℕ) (event : Event) → filter has_event (enumerate_from n (handled_marks es ms cs ++ stop_marks (suc k) (Some event))) ≡ [] → ⊥
some_event n [] ms cs k event h = cc
some_event n (e ∷ es) ms cs k event h = some_event (n + 1) es (rest_words ms) (rest_words cs) k event h

none_later : (n k at : ℕ) (event : Event) → Contains (enumerate_from n (replicate k (M.Stopped None))) (at, M.Stopped (Some event)) → ⊥
none_later n zero at event (j, lt, e) = absurd (omega (arith, lt))
none_later n (suc k) at event (zero, lt, e) = true≢false (sym (ap has_event e))
none_later n (suc k) at event (suc j, lt, e) = none_later (n + 1) k at event (j, omega (arith, lt), e)

abbrev event_of : Mark → Option Event
event_of (M.Handled e behind) = None
event_of (M.Stopped hand) = hand

one_event : (n : ℕ) (es : List Entry) (ms cs : List ℕ) (k : ℕ) (event other : Event) (at : ℕ) → Contains (enumerate_from n (handled_marks es ms cs ++ stop_marks k (Some event))) (at, M.Stopped (Some other)) → other ≡ event
one_event n [] ms cs zero event other at (j, lt, e) = absurd (omega (arith, lt))
one_event n [] ms cs (suc k) event other at (zero, lt, e) = let same : Some event ≡ Some other = ap (λ x. event_of x.1) e in cc
one_event n [] ms cs (suc k) event other at (suc j, lt, e) = absurd (none_later (n + 1) k at other (j, omega (arith, lt), e))
one_event n (x ∷ es) ms cs k event other at (zero, lt, e) = absurd (true≢false (sym (ap has_event e)))
one_event n (x ∷ es) ms cs k event other at (suc j, lt, e) = one_event (n + 1) es (rest_words ms) (rest_words cs) k event other at (j, omega (arith, lt), e)

empty_or : {A : Type 0} (xs : List A) → (xs ≡ []) ⊎ (xs ≢ [])
empty_or [] = inl refl
empty_or (x ∷ xs) = inr (λ h. cc)

-- behind phases that are through
behind_whole : (event : Event) (rest : List (List (List Event))) (tail : List Part) {is_cut : Bool} {phases : List (List (List Event))} {parts : List Part}
    → PartsOf is_cut phases parts → is_cut ≡ false → HandComes event rest tail → HandComes event (phases ++ rest) (parts ++ tail)
behind_whole event rest tail ends off comes = comes
behind_whole event rest tail (whole does more) off comes = later does (behind_whole event rest tail more off comes)
behind_whole event rest tail (broken does) off comes = absurd (true≢false off)

module _ {F : Type 0} (old new : NodeView F) (d e : DrawerView) (events : List (List Event)) (counts : List ℕ) (dones : List Done)
    (w : WasPhase old new d e events counts dones) (memory : HadMemory dones) (few : length events ≤ length counts) (none : old.stops ≡ 0) where
  abbrev came : CameTo old new
  came = came_to old new none w.front

  abbrev part : Part
  part = part_of old new dones

  abbrev lists : List (List (ℕ × Mark))
  lists = [] ∷ map own_of w.bearers

  lists_long : length lists ≡ suc (length w.bearers)
  lists_long = ap suc (length-map w.bearers own_of)

  -- the first of the bearers whose own entries have a mark with an event
  find : (b : BearerOf F) (n : ℕ) → n ≤ length w.bearers → ((j : ℕ) → j < n → filter has_event (slice_index_or w.bearers j b).pass.own ≡ [])
      ⊎ ((j : ℕ) × (j < length w.bearers) × (filter has_event (slice_index_or w.bearers j b).pass.own ≢ []))
  find b zero le = inl (λ j lt. absurd (omega (arith, lt)))
  find b (suc n) le =
      ⊎_elim (λ all. ⊎_elim (λ empty. inl (λ j lt. by_place j (less_or j n) all empty lt)) (λ some. inr (n, omega (arith, le), some)) (empty_or (filter has_event (slice_index_or w.bearers n b).pass.own))) (λ found. inr found)
      (find b n (omega (arith, le))) where
        by_place : (j : ℕ) → (j < n) ⊎ (n ≤ j) → ((j : ℕ) → j < n → filter has_event (slice_index_or w.bearers j b).pass.own ≡ []) → filter has_event (slice_index_or w.bearers n b).pass.own ≡ [] → j < suc n
            → filter has_event (slice_index_or w.bearers j b).pass.own ≡ []
        by_place j (inl lt) all last bound = all j lt
        by_place j (inr le) all last bound = let same : n ≡ j = omega (arith, le, bound) in subst (λ i. filter has_event (slice_index_or w.bearers i b).pass.own ≡ []) same last

  -- a bearer that was broken off, whose next event was this
  record BrokeAt (event : Event) : Type 0 where
    at : ℕ
    like : BearerOf F
    within : at < length w.bearers
    broke : Broke at (slice_index_or w.before at like).number (map handle (list_at events at)) (slice_index_or w.bearers at like)
    next : IsNext event broke.left

  broke_at : (event : Event) → event_in new.machine.hand ≡ Some event → (j : ℕ) (b : BearerOf F) (lt : j < length w.bearers)
      → Broke j (slice_index_or w.before j b).number (map handle (list_at events j)) (slice_index_or w.bearers j b)
      → filter has_event (slice_index_or w.bearers j b).pass.own ≢ [] → BrokeAt event
  broke_at event hand j b lt broke some = by_hand broke.is.hand refl where
    by_hand : (o : Option Event) → broke.is.hand ≡ o → BrokeAt event
    by_hand None is =
        absurd (some (ap (filter has_event) (broke.is.own ∙ ap (λ o. broke.is.before ++ (broke.is.at, M.Stopped o) ∷ []) is) ∙ filter-append has_event broke.is.before ((broke.is.at, M.Stopped None) ∷ [])
        ∙ append-nil (filter has_event broke.is.before) ∙ no_event broke.is.before broke.is.did.entries broke.is.did.own_are))
    by_hand (Some ev) is =
        let own = broke.is.own ∙ ap (λ o. broke.is.before ++ (broke.is.at, M.Stopped o) ∷ []) is in
        let held = (w.holds j b lt).has (broke.is.at, M.Stopped (Some ev))
        (subst (λ l. Contains l (broke.is.at, M.Stopped (Some ev))) (sym own) (Contains-append_right broke.is.before ((broke.is.at, M.Stopped (Some ev)) ∷ []) (broke.is.at, M.Stopped (Some ev)) (0, omega arith, refl))) in
        let marks = came.marks ∙ ap (λ o. enumerate_from (length old.machine.entries) (handled_marks came.more came.moves came.counters ++ stop_marks new.stops o)) hand in
        let same : ev ≡ event = one_event (length old.machine.entries) came.more came.moves came.counters new.stops event ev broke.is.at (subst (λ l. Contains l (broke.is.at, M.Stopped (Some ev))) marks held) in
        record { at = j; like = b; within = lt; broke = broke; next = subst (λ x. IsNext x broke.left) same (broke.is.next ev is) }

  by_stop : (event : Event) → event_in new.machine.hand ≡ Some event → (j : ℕ) (b : BearerOf F) (lt : j < length w.bearers) → (s : Option Stop) → (slice_index_or w.bearers j b).stop ≡ s
      → Worked j (list_at events j) (slice_index_or w.before j b) (slice_index_or w.bearers j b) → filter has_event (slice_index_or w.bearers j b).pass.own ≢ [] → BrokeAt event
  by_stop event hand j b lt None is worked some =
      let did = worked.did is in
      absurd (some (no_event (slice_index_or w.bearers j b).pass.own did.entries did.own_are))
  by_stop event hand j b lt (Some S.Closed) is worked some = broke_at event hand j b lt (worked.broke S.Closed is) some
  by_stop event hand j b lt (Some S.Memory) is worked some =
      absurd (memory j (done_of b) (omega (arith, lt, ap length w.left, length-map w.bearers done_of)) (ap (λ xs. (slice_index_or xs j (done_of b)).stop) w.left ∙ ap (λ x. x.stop) (index_map done_of w.bearers j b (done_of b) lt) ∙ is))
  by_stop event hand j b lt (Some S.Flash) is worked some = broke_at event hand j b lt (worked.broke S.Flash is) some

  -- if no bearer had a mark with an event, the node had none
  nobody : (event : Event) (m : ℕ) → new.stops ≡ suc m → event_in new.machine.hand ≡ Some event → ((j : ℕ) → j < length lists → j ≢ 0 → filter has_event (slice_index_or lists j []) ≡ []) → ⊥
  nobody event m stops hand all =
      let kept : filter has_event (added (node_marks old) (node_marks new)) ≡ [] = w.kept has_event [] (kept_at has_event 0 lists [] [] (omega (arith, lists_long)) refl all) in
      let marks = came.marks ∙ ap (λ o. enumerate_from (length old.machine.entries) (handled_marks came.more came.moves came.counters ++ stop_marks new.stops o)) hand
      ∙ ap (λ n. enumerate_from (length old.machine.entries) (handled_marks came.more came.moves came.counters ++ stop_marks n (Some event))) stops in
      some_event (length old.machine.entries) came.more came.moves came.counters m event (ap (filter has_event) (sym marks) ∙ kept)

  all_lists : (b : BearerOf F) → ((j : ℕ) → j < length w.bearers → filter has_event (slice_index_or w.bearers j b).pass.own ≡ []) → (j : ℕ) → j < length lists → j ≢ 0 → filter has_event (slice_index_or lists j []) ≡ []
  all_lists b all zero lt n = absurd (n refl)
  all_lists b all (suc j) lt n =
      let within : j < length w.bearers = omega (arith, lt, lists_long) in
      ap (filter has_event) (index_map own_of w.bearers j b [] within) ∙ all j within

  by_list : (bs : List (BearerOf F)) → w.bearers ≡ bs → (event : Event) (m : ℕ) → new.stops ≡ suc m → event_in new.machine.hand ≡ Some event → BrokeAt event
  by_list [] is event m stops hand = absurd (nobody event m stops hand (λ j lt n. absurd (omega (arith, lt, lists_long, ap length is, pos j n)))) where
    pos : (j : ℕ) → j ≢ 0 → 0 < j
    pos zero n = absurd (n refl)
    pos (suc j) n = omega arith
  by_list (b ∷ bs) is event m stops hand =
      ⊎_elim (λ all. absurd (nobody event m stops hand (all_lists b all)))
      (λ found. by_stop event hand found.0 b found.1 (slice_index_or w.bearers found.0 b).stop refl (w.worked found.0 b (omega (arith, found.1, w.long))) found.2)
      (find b (length w.bearers) (omega arith))

  found_at : (event : Event) (n : ℕ) → new.stops ≡ n → 0 < new.stops → event_in new.machine.hand ≡ Some event → BrokeAt event
  found_at event zero is some hand = absurd (omega (arith, is, some))
  found_at event (suc m) is some hand = by_list w.bearers refl event m is hand

  entries_of : (event : Event) (x : BrokeAt event) → of_bearer x.at part.entries ≡ x.broke.is.did.entries
  entries_of event x =
      let j = x.at in
      let broke = x.broke in
      let mine = filter (is_by j) (slice_index_or w.bearers j x.like).pass.own in
      let own_by : mine ≡ filter (is_by j) broke.is.before = ap (filter (is_by j)) broke.is.own ∙ stop_dropped j broke.is.at broke.is.hand broke.is.before in
      let kept : AreMarksAt mine broke.is.did.entries =
      subst (λ l. AreMarksAt l broke.is.did.entries) (sym (own_by ∙ keep_mine j broke.is.before broke.is.did.entries broke.is.did.own_are broke.is.did.bearer)) broke.is.did.own_are in
      let p = (part_at old new d e events counts dones w memory few j x.like x.within).did in
      entries_at old new d e events counts dones w memory few j x.like x.within ∙ sym (placed_marks mine p.entries p.kept) ∙ placed_marks mine broke.is.did.entries kept

  lines_at : (j : ℕ) (b : BearerOf F) → j < length w.bearers → list_at part.sends j ≡ (slice_index_or w.bearers j b).lines.items
  lines_at j b lt =
      list_at_map lines_of dones j (done_of b) (omega (arith, lt, ap length w.left, length-map w.bearers done_of))
      ∙ ap lines_of (ap (λ xs. slice_index_or xs j (done_of b)) w.left ∙ index_map done_of w.bearers j b (done_of b) lt)

  -- what it left of its part begins with that event
  here_at : (event : Event) → is_outside event ≡ true → (rest : List (List (List Event))) → BrokeAt event → HandComes event (events ∷ rest) (part ∷ [])
  here_at event out rest x =
      let tasks = map handle (list_at events x.at) in
      let lines = (slice_index_or w.bearers x.at x.like).lines.items in
      let next = next_task (list_at events x.at) x.broke.is.did.entries lines event x.broke.left x.broke.is.did.walks x.next out in
      let does : Does events part x.at (handle event ∷ next.0) =
      subst (λ es. Walks tasks es (list_at part.sends x.at) (handle event ∷ next.0)) (sym (entries_of event x))
      (subst (λ ls. Walks tasks x.broke.is.did.entries ls (handle event ∷ next.0)) (sym (lines_at x.at x.like x.within))
      (subst (λ left. Walks tasks x.broke.is.did.entries lines left) next.1 x.broke.is.did.walks)) in
      here x.at next.0 does

  module _ (phases : List (List (List Event))) (h : AreHandledAll phases old.machine.entries) where
    by_bearer : (k : ℕ) → entries_by k new.machine.entries ≡ entries_by k old.machine.entries ++ entries_by k came.more
    by_bearer k = ap (entries_by k) came.is ∙ filter-append (λ (x : Entry). x.bearer == k) old.machine.entries came.more

    more_by : (k : ℕ) → map (λ (q : Placed). q.entry) (of_bearer k part.entries) ≡ entries_by k came.more
    more_by k = ap (λ l. map (λ (q : Placed). q.entry) (of_bearer k l)) came.placed ∙ of_bearer_from k (length old.machine.entries) came.more

    outs_by : (k : ℕ) → outs (entries_by k new.machine.entries) ≡ events_of phases k ++ outs (map (λ (q : Placed). q.entry) (of_bearer k part.entries))
    outs_by k =
        ap outs (by_bearer k) ∙ outs_append (entries_by k old.machine.entries) (entries_by k came.more) ∙ ap (λ l. l ++ outs (entries_by k came.more)) (h k)
        ∙ ap (λ l. events_of phases k ++ outs l) (sym (more_by k))

    events_more : (k : ℕ) (rest : List (List (List Event))) → events_of (phases ++ events ∷ rest) k ≡ events_of phases k ++ (list_at events k ++ events_of rest k)
    events_more k rest = flat_map-append (λ (evs : List (List Event)). list_at evs k) phases (events ∷ rest)

    pub handled_more : AreThrough dones → AreHandledAll (phases ++ events ∷ []) new.machine.entries
    handled_more through k =
        let p = (parts_of_phase old new d e events counts dones w memory few k).0 in
        let does : Does events part k [] = subst (Does events part k) (p.all through) p.does in
        outs_by k ∙ ap (λ l. events_of phases k ++ l) (outs_all (list_at events k) (of_bearer k part.entries) (list_at part.sends k) does ∙ sym (append-nil (list_at events k))) ∙ sym (events_more k [])

    next_at : (event : Event) → is_outside event ≡ true → (rest : List (List (List Event))) → BrokeAt event → IsNextIn (phases ++ events ∷ rest) new.machine.entries event
    next_at event out rest x =
        let j = x.at in
        let did = x.broke.is.did in
        let handled = length (outs (map (λ (q : Placed). q.entry) did.entries)) in
        let now = next_out (list_at events j) did.entries (slice_index_or w.bearers j x.like).lines.items event x.broke.left did.walks x.next out in
        let through : length (outs (entries_by j new.machine.entries)) ≡ length (events_of phases j) + handled =
        ap length (outs_by j) ∙ length-append (events_of phases j) (outs (map (λ (q : Placed). q.entry) (of_bearer j part.entries)))
        ∙ ap (λ l. length (events_of phases j) + length (outs (map (λ (q : Placed). q.entry) l))) (entries_of event x) in
        record {
          bearer = j;
          next = ap (λ l. slice_get l (length (outs (entries_by j new.machine.entries)))) (events_more j rest) ∙ ap (slice_get (events_of phases j ++ (list_at events j ++ events_of rest j))) through
              ∙ get_shift (events_of phases j) (list_at events j ++ events_of rest j) handled ∙ get_longer (list_at events j) (events_of rest j) handled event now;
        }

    pub next_in : 0 < new.stops → (event : Event) → event_in new.machine.hand ≡ Some event → is_outside event ≡ true → (rest : List (List (List Event))) → IsNextIn (phases ++ events ∷ rest) new.machine.entries event
    next_in some event hand out rest = next_at event out rest (found_at event new.stops refl some hand)

  pub in_hand : (phases : List (List (List Event))) (sends : List (List Sent)) (ended : List ℕ) → AreDone phases old.machine.entries sends counts ended → 0 < new.stops → (event : Event) → event_in new.machine.hand ≡ Some event → is_outside event ≡ true
      → (rest : List (List (List Event))) → IsInHand (phases ++ events ∷ rest) new.machine.entries (both_of sends (map lines_of dones)) event
  in_hand phases sends ended h some event hand out rest = record {
    parts = h.parts ++ part ∷ [];
    fall = fall_more phases old new d e events counts ended dones sends h w memory few none;
    comes = behind_whole event (events ∷ rest) (part ∷ []) (all_parts false phases h.parts h.done) refl (here_at event out rest (found_at event new.stops refl some hand));
  }
