-- Sums over the views of all passes, and facts of each view, where one view changes.
use Rattle.std.proofs.Common.{◌≡◌, ℕ, zero, suc, ◌+◌, ◌≤◌, ◌≢◌, ⊎_elim, List, [], ◌∷◌, ◌++◌, set, refl, sym, ap, arith, subst}
use Rattle.std.specs.List.{sum_by}
use Rattle.std.proofs.lemmas.List.Sums.{sum_by-cons}
use mathlib.Core.Option.{some, some-injective, some-ne-none}
use lib.ListN.{get_elem?}
use Rattle.atomic_table.proofs.Lists.{at_set, at_snoc}

module _ {V : Type 0} where
  pub total_set : (f : V → ℕ) (views : List V) (id : ℕ) (v w : V) → get_elem? views id ≡ some v → sum_by f (set views id w) + f v ≡ sum_by f views + f w
  total_set f [] id v w at = absurd (some-ne-none v (sym at))
  total_set f (x ∷ xs) zero v w at = let e = ap f (some-injective x v at) in omega (arith, sum_by-cons f x xs, sum_by-cons f w xs)
  total_set f (x ∷ xs) (suc id) v w at = let rest = total_set f xs id v w at in omega (arith, sum_by-cons f x xs, sum_by-cons f x (set xs id w))

  pub total_has : (f : V → ℕ) (views : List V) (id : ℕ) (v : V) → get_elem? views id ≡ some v → f v ≤ sum_by f views
  total_has f [] id v at = absurd (some-ne-none v (sym at))
  total_has f (x ∷ xs) zero v at = let e = ap f (some-injective x v at) in omega (arith, sum_by-cons f x xs)
  total_has f (x ∷ xs) (suc id) v at = let rest = total_has f xs id v at in omega (arith, sum_by-cons f x xs)

  -- two passes
  pub total_two : (f : V → ℕ) (views : List V) (i j : ℕ) (v w : V) → j ≢ i → get_elem? views i ≡ some v → get_elem? views j ≡ some w → f v + f w ≤ sum_by f views
  total_two f [] i j v w apart at bt = absurd (some-ne-none v (sym at))
  total_two f (x ∷ xs) zero zero v w apart at bt = absurd (apart refl)
  total_two f (x ∷ xs) zero (suc j) v w apart at bt = let e = ap f (some-injective x v at) in let rest = total_has f xs j w bt in omega (arith, sum_by-cons f x xs)
  total_two f (x ∷ xs) (suc i) zero v w apart at bt = let e = ap f (some-injective x w bt) in let rest = total_has f xs i v at in omega (arith, sum_by-cons f x xs)
  total_two f (x ∷ xs) (suc i) (suc j) v w apart at bt = let rest = total_two f xs i j v w (λ e. apart (ap suc e)) at bt in omega (arith, sum_by-cons f x xs)

  -- where each view has as much of g as of f at least, all views have
  pub total_most : (f g : V → ℕ) (views : List V) → ((id : ℕ) (v : V) → get_elem? views id ≡ some v → f v ≤ g v) → sum_by f views ≤ sum_by g views
  total_most f g [] most = omega arith
  total_most f g (x ∷ xs) most =
      let first : f x ≤ g x = most zero x refl in
      let rest = total_most f g xs (λ id v at. most (suc id) v at) in
      omega (arith, sum_by-cons f x xs, sum_by-cons g x xs)

  -- where no view has any of f, there is none in all
  total_none : (f : V → ℕ) (views : List V) → ((id : ℕ) (v : V) → get_elem? views id ≡ some v → f v ≡ 0) → sum_by f views ≡ 0
  total_none f [] none = refl
  total_none f (x ∷ xs) none =
      let first : f x ≡ 0 = none zero x refl in
      let rest = total_none f xs (λ id v at. none (suc id) v at) in
      omega (arith, sum_by-cons f x xs)

  -- where one view has all of g, it has all of f, if only a view with some of g has any of f
  pub total_whole : (f g : V → ℕ) (views : List V) (id : ℕ) (v : V) → get_elem? views id ≡ some v → g v ≡ sum_by g views → ((by : ℕ) (u : V) → get_elem? views by ≡ some u → g u ≡ 0 → f u ≡ 0) → sum_by f views ≡ f v
  total_whole f g [] id v at all none = absurd (some-ne-none v (sym at))
  total_whole f g (x ∷ xs) zero v at all none =
      let same : x ≡ v = some-injective x v at in
      let e = ap f same in
      let d = ap g same in
      let empty : (by : ℕ) (u : V) → get_elem? xs by ≡ some u → f u ≡ 0 =
      λ by u bt. none (suc by) u bt (omega (arith, total_has g xs by u bt, sum_by-cons g x xs)) in
      omega (arith, total_none f xs empty, sum_by-cons f x xs)
  total_whole f g (x ∷ xs) (suc id) v at all none =
      let has = total_has g xs id v at in
      let zero_first : g x ≡ 0 = omega (arith, sum_by-cons g x xs) in
      let first : f x ≡ 0 = none zero x refl zero_first in
      let rest = total_whole f g xs id v at (omega (arith, sum_by-cons g x xs)) (λ by u bt. none (suc by) u bt) in
      omega (arith, sum_by-cons f x xs)

  -- a fact of each view, where one changes
  pub each_set : (P Q : V → Type 0) (views : List V) (id : ℕ) (w : V) → Q w → ((by : ℕ) (u : V) → by ≢ id → get_elem? views by ≡ some u → P u → Q u) → ((by : ℕ) (u : V) → get_elem? views by ≡ some u → P u)
      → (by : ℕ) (u : V) → get_elem? (set views id w) by ≡ some u → Q u
  each_set P Q views id w fits others each by u at =
      ⊎_elim (λ t. subst Q t.1 fits) (λ t. others by u t.0 t.1 (each by u t.1)) (at_set views id by w u at)

  pub each_snoc : (P : V → Type 0) (views : List V) (w : V) → P w → ((by : ℕ) (u : V) → get_elem? views by ≡ some u → P u) → (by : ℕ) (u : V) → get_elem? (views ++ w ∷ []) by ≡ some u → P u
  each_snoc P views w fits each by u at = ⊎_elim (λ t. each by u t) (λ t. subst P t fits) (at_snoc views w u by at)
