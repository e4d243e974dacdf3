-- A bearer's own entries among those of all.
use Rattle.std.proofs.Common.{◌≡◌, ◌≢◌, ◌∙◌, ℕ, Bool, true, false, List, [], ◌∷◌, ◌++◌, Option, refl, sym, ap, arith, append-nil}
use Rattle.std.specs.Prelude.{All, ◌==◌}
use Rattle.std.specs.List.{filter}
use Rattle.std.proofs.lemmas.List.Elements.{All-head, All-tail, filter-append}
use Rattle.std.proofs.lemmas.Bool.Decides.{nat_tests}
use Rattle.mesh_types.specs.declared.events.Event.{Event}
use Rattle.mesh_types.specs.declared.history.Entry.{Entry}
use Rattle.run_definitions.specs.Order.{Placed, of_bearer}
use Rattle.locked_node.specs.declared.marks.Behind.{Behind}
use Rattle.locked_node.specs.declared.marks.Mark.{Mark}
use Rattle.locked_node.specs.declared.marks.Mark.TheVariants as M
use Rattle.node_bearer.specs.Did.{AreMarksAt}
use Rattle.node_phase.specs.Part.{is_of, placed_of}

is_yes : (a b : ℕ) → a ≡ b → (a == b) ≡ true
is_yes a b e = grind (arith, nat_tests)

is_no : (a b : ℕ) → a ≢ b → (a == b) ≡ false
is_no a b e = grind (arith, nat_tests)

abbrev pub is_by : ℕ → ℕ × Mark → Bool
is_by k x = is_of k x.1

-- one item more, by the test
pub kept_yes : {A : Type 0} (p : A → Bool) (x : A) (xs : List A) → p x ≡ true → filter p (x ∷ xs) ≡ x ∷ filter p xs
kept_yes p x xs e = rw e refl

pub kept_no : {A : Type 0} (p : A → Bool) (x : A) (xs : List A) → p x ≡ false → filter p (x ∷ xs) ≡ filter p xs
kept_no p x xs e = rw e refl

-- the test for an entry's mark
yes_at : (k at : ℕ) (e : Entry) (behind : Behind) (x : ℕ × Mark) → x ≡ (at, M.Handled e behind) → e.bearer ≡ k → is_by k x ≡ true
yes_at k at e behind x is by = ap (is_by k) is ∙ is_yes e.bearer k by

no_at : (j at : ℕ) (e : Entry) (behind : Behind) (x : ℕ × Mark) → x ≡ (at, M.Handled e behind) → e.bearer ≢ j → is_by j x ≡ false
no_at j at e behind x is other = ap (is_by j) is ∙ is_no e.bearer j other

pub keep_mine : (k : ℕ) (own : List (ℕ × Mark)) (ps : List Placed) → AreMarksAt own ps → All (λ p. p.entry.bearer ≡ k) ps → filter (is_by k) own ≡ own
keep_mine k [] ps are h = refl
keep_mine k (x ∷ own) [] are h = absurd are
keep_mine k (x ∷ own) (p ∷ ps) are h =
    kept_yes (is_by k) x own (yes_at k p.at p.entry are.0 x are.1 (All-head (λ p. p.entry.bearer ≡ k) p ps h))
    ∙ ap (λ l. x ∷ l) (keep_mine k own ps are.2 (All-tail (λ p. p.entry.bearer ≡ k) p ps h))

pub drop_mine : (k j : ℕ) (own : List (ℕ × Mark)) (ps : List Placed) → j ≢ k → AreMarksAt own ps → All (λ p. p.entry.bearer ≡ k) ps → filter (is_by j) own ≡ []
drop_mine k j [] ps n are h = refl
drop_mine k j (x ∷ own) [] n are h = absurd are
drop_mine k j (x ∷ own) (p ∷ ps) n are h =
    kept_no (is_by j) x own (no_at j p.at p.entry are.0 x are.1 (λ e. n (sym e ∙ All-head (λ p. p.entry.bearer ≡ k) p ps h)))
    ∙ drop_mine k j own ps n are.2 (All-tail (λ p. p.entry.bearer ≡ k) p ps h)

-- a stop's mark is no entry
pub stop_dropped : (k at : ℕ) (hand : Option Event) (xs : List (ℕ × Mark)) → filter (is_by k) (xs ++ (at, M.Stopped hand) ∷ []) ≡ filter (is_by k) xs
stop_dropped k at hand xs = filter-append (is_by k) xs ((at, M.Stopped hand) ∷ []) ∙ append-nil (filter (is_by k) xs)

-- with one item more
placed_here : (p : Placed) (behind : Behind) (own : List (ℕ × Mark)) → placed_of ((p.at, M.Handled p.entry behind) ∷ own) ≡ p ∷ placed_of own
placed_here p behind own = refl

pub placed_marks : (own : List (ℕ × Mark)) (ps : List Placed) → AreMarksAt own ps → placed_of own ≡ ps
placed_marks [] [] are = refl
placed_marks [] (p ∷ ps) are = absurd are
placed_marks (x ∷ own) [] are = absurd are
placed_marks (x ∷ own) (p ∷ ps) are =
    ap (λ y. placed_of (y ∷ own)) are.1 ∙ placed_here p are.0 own ∙ ap (λ l. p ∷ l) (placed_marks own ps are.2)

-- the entries of a bearer among all
pub of_bearer_placed : (k : ℕ) (xs : List (ℕ × Mark)) → of_bearer k (placed_of xs) ≡ placed_of (filter (is_by k) xs)
of_bearer_placed k [] = refl
of_bearer_placed k ((at, M.Stopped hand) ∷ xs) = of_bearer_placed k xs
of_bearer_placed k ((at, M.Handled e behind) ∷ xs) = by_test (of_bearer_placed k xs) (e.bearer == k) refl where
  by_test : of_bearer k (placed_of xs) ≡ placed_of (filter (is_by k) xs) → (b : Bool) → (e.bearer == k) ≡ b → of_bearer k (placed_of ((at, M.Handled e behind) ∷ xs)) ≡ placed_of (filter (is_by k) ((at, M.Handled e behind) ∷ xs))
  by_test rest true here =
      kept_yes (λ (p : Placed). p.entry.bearer == k) (record { at = at; entry = e }) (placed_of xs) here ∙ ap (λ l. record { at = at; entry = e } ∷ l) rest
      ∙ sym (ap placed_of (kept_yes (is_by k) (at, M.Handled e behind) xs here))
  by_test rest false other =
      kept_no (λ (p : Placed). p.entry.bearer == k) (record { at = at; entry = e }) (placed_of xs) other ∙ rest
      ∙ sym (ap placed_of (kept_no (is_by k) (at, M.Handled e behind) xs other))

pub entries_of_bearer : (k : ℕ) (all : List (ℕ × Mark)) (ps : List Placed) → AreMarksAt (filter (is_by k) all) ps → of_bearer k (placed_of all) ≡ ps
entries_of_bearer k all ps are = of_bearer_placed k all ∙ placed_marks (filter (is_by k) all) ps are
