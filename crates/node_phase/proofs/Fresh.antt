-- A bearer at the beginning of a phase, and behind it.
use Rattle.std.proofs.Common.{◌≡◌, ◌∙◌, ⊎_elim, Bool, ℕ, ◌+◌, ◌<◌, List, [], ◌∷◌, ◌++◌, length, map, take, drop, Option, Some, None, Result, Ok, Err, refl, sym, ap, subst, arith, append-nil, length-append}
use Rattle.std.proofs.lemmas.List.{drop_all, map-append, take_all, take_more}
use Rattle.std.proofs.Common.{get_or}
use Rattle.turn_lock.specs.Entries.{KeptOf}
use Rattle.turn_lock.specs.Views.{PassView}
use Rattle.std.specs.Prelude.{◌^◌, All, AllPairs, OnOk, IfErr}
use Rattle.std.specs.List.{filter, sum_by}
use Rattle.std.proofs.lemmas.List.Sums.{sum_by-cons}
use Rattle.std.specs.Result.{result_err}
use Rattle.std.proofs.lemmas.List.Elements.{All-head, All-nil, All-tail}
use Rattle.machine_contract.specs.declared.answers.Stop.{Stop}
use Rattle.mesh_types.specs.declared.events.Event.{Event}
use Rattle.mesh_types.specs.declared.history.Sent.{Sent}
use Rattle.report_definitions.specs.Record.{Shown}
use Rattle.run_definitions.specs.Order.{Placed, Task, Walks, handle, stops}
use Rattle.seq_word.specs.Seen.{DrawerView}
use Rattle.locked_node.specs.declared.marks.Mark.{Mark}
use Rattle.locked_node.specs.Node.{OnStop}
use Rattle.node_bearer.specs.Did.{AreHandles, AreMarksAt, AreOfLast, BearerOf, Broke, Did, DidBy, GoesOn, IsMovedOver}
use Rattle.node_bearer.specs.Marked.{AreShown, IsBehind, IsFrom, IsSpentSeen}
use Rattle.node_bearer.proofs.Turning.{on_stop}
use Rattle.node_phase.specs.Worked.{IsFresh, Worked}

abbrev pub drawer_with : DrawerView → ℕ → DrawerView
drawer_with d parts = record d { parts = parts }

abbrev pub pass_with : {T E : Type 0} → PassView T E → ℕ → PassView T E
pass_with p parts = record p { parts = parts }

pub long_more : {A : Type 0} (old new : List A) (x : A) → new ≡ old ++ x ∷ [] → length new ≡ length old + 1
long_more old new x e = omega (arith, ap length e, length-append old (x ∷ []))

pub numbers_more : {F : Type 0} (old new : List (BearerOf F)) (b : BearerOf F) (counts : List ℕ) (i : ℕ) → new ≡ old ++ b ∷ [] → map (λ x. x.number) old ≡ take i counts
    → b.number ≡ get_or counts i 0 → i < length counts → map (λ x. x.number) new ≡ take (i + 1) counts
numbers_more old new b counts i e before here lt =
    ap (map (λ x. x.number)) e ∙ map-append (λ x. x.number) old (b ∷ []) ∙ ap (λ ns. ns ++ b.number ∷ []) before ∙ ap (λ n. take i counts ++ n ∷ []) here
    ∙ sym (take_more counts i 0 lt)

-- what a slice of all items leaves
pub back : {A : Type 0} (n : ℕ) (xs ys : List A) → n ≡ length xs → length ys ≡ length xs → take n (ys ++ drop (length ys) xs) ≡ ys
back n xs ys long same =
    ap (λ l. take n (ys ++ l)) (drop_all (length ys) xs (omega (arith, same))) ∙ ap (take n) (append-nil ys) ∙ take_all n ys (omega (arith, long, same))

-- where each has one, they have as many as they are
pub sum_ones : {A : Type 0} (f : A → ℕ) (xs : List A) → All (λ x. f x ≡ 1) xs → sum_by f xs ≡ length xs
sum_ones f [] each = refl
sum_ones f (x ∷ xs) each =
    omega (arith, sum_by-cons f x xs, All-head (λ y. f y ≡ 1) x xs each, sum_ones f xs (All-tail (λ y. f y ≡ 1) x xs each))

nothing_shown : (marks : List Mark) (d : DrawerView) → d.drawn ≡ [] → AreShown marks [] d
nothing_shown marks d w = record {
  shows = [];
  found = refl;
  short = All-nil (λ (s : Sent). s.job + 1 < 2 ^ 8);
  drawing = sym w;
  seq = All-nil (λ p. p.seq < 2 ^ 24);
  spent = All-nil (λ (s : Shown). IsSpentSeen d.looks s.outcome);
  own = λ x. omega arith;
  onward = λ i j e lt within. absurd (omega (arith, within));
  behind = All-nil (IsBehind d);
  from = All-nil (IsFrom marks);
}

pub did_nothing : (k number : ℕ) (tasks : List Task) (own : List (ℕ × Mark)) (marks : List Mark) (lines : List Sent) (d : DrawerView)
    → own ≡ [] → lines ≡ [] → d.drawn ≡ [] → AreOfLast [] tasks → Did k number tasks tasks own marks lines number d
did_nothing k number tasks own marks lines d o l w over = record {
  entries = [];
  own_are = subst (λ xs. AreMarksAt xs []) (sym o) tt;
  walks = subst (λ ls. Walks tasks [] ls tasks) (sym l) stops;
  bearer = All-nil (λ (p : Placed). p.entry.bearer ≡ k);
  numbers = refl;
  count = omega arith;
  shown = subst (λ ls. AreShown marks ls d) (sym l) (nothing_shown marks d w);
  rise = subst (AllPairs (λ x y. x < y)) (sym w) (λ i j e lt within. absurd (omega (arith, within)));
  above = subst (All (λ x. All (λ y. y < x) d.noted)) (sym w) (All-nil (λ x. All (λ y. y < x) d.noted));
  until = All-nil (IsMovedOver marks lines d);
  over = over;
  last = All-nil (λ (p : Placed). p.at < length marks);
}

are_handles : (events : List Event) → AreHandles (map handle events)
are_handles [] = tt
are_handles (e ∷ events) = are_handles events

over_nothing : (events : List Event) → AreOfLast [] (map handle events)
over_nothing [] = tt
over_nothing (e ∷ events) = are_handles events

module _ {F : Type 0} (k : ℕ) (events : List Event) (old b : BearerOf F) where
  begins : IsFresh old → DidBy k old.number (map handle events) (map handle events) old
  begins fresh = did_nothing k old.number (map handle events) old.pass.own old.pass.seen old.lines.items old.drawer fresh.own fresh.lines fresh.drawn (over_nothing events)

  pub worked_by : (r : Result (Unit {0}) Stop) (stop : Option Stop) → stop ≡ result_err r → GoesOn old b → IsFresh old
      → ((first : ℕ) (tasks : List Task) → DidBy k first tasks (map handle events) old → OnOk r (DidBy k first tasks [] b))
      → ((first : ℕ) (tasks : List Task) → DidBy k first tasks (map handle events) old → IfErr r (λ e. OnStop e (Broke k first tasks b)))
      → Worked k events old (record b { stop = stop })
  worked_by (Ok u) stop is on fresh did broke = record {
    seen = record { rest = on.rest; is = on.more };
    noted = on.noted;
    known = on.known;
    parts = on.parts;
    owes = on.free fresh.owes;
    did = λ none. did old.number (map handle events) (begins fresh);
    broke = λ e some. absurd (let bad : None ≡ Some e = sym is ∙ some in cc);
  }
  worked_by (Err e) stop is on fresh did broke = record {
    seen = record { rest = on.rest; is = on.more };
    noted = on.noted;
    known = on.known;
    parts = on.parts;
    owes = on.free fresh.owes;
    did = λ none. absurd (let bad : Some e ≡ None = sym is ∙ none in cc);
    broke = λ f some. let same : e ≡ f = (let h : Some e ≡ Some f = sym is ∙ some in cc) in
        subst (λ x. OnStop x (Broke k old.number (map handle events) (record b { stop = stop }))) same
        (again e (broke old.number (map handle events) (begins fresh)));
  } where
    again : (e : Stop) → OnStop e (Broke k old.number (map handle events) b) → OnStop e (Broke k old.number (map handle events) (record b { stop = stop }))
    again e h = on_stop e (λ x. record { left = x.left; is = record { before = x.is.before; at = x.is.at; hand = x.is.hand; own = x.is.own; did = x.is.did; next = x.is.next }; stuck = x.stuck; dry = x.dry }) h

-- what a test keeps of one bearer's own entries, where they are the only ones
pub kept_one : (keep : ℕ × Mark → Bool) (own ys : List (ℕ × Mark)) → KeptOf keep ([] ∷ own ∷ []) ys → filter keep own ≡ ys
kept_one keep own ys h =
    ⊎_elim (λ first. first.1 0 own (omega arith) ∙ first.0)
    (λ second. ⊎_elim (λ mine. mine.0) (λ none. none.0 ∙ sym none.1) second.1) h
