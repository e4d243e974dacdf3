-- Sums over the views of all seats, and how often a word goes by.
use Rattle.std.proofs.Common.{◌≡◌, ◌≢◌, ℕ, zero, suc, ◌+◌, ◌<◌, ◌≤◌, List, [], ◌∷◌, length, get_or, set, refl, sym, ap, arith}
use Rattle.std.specs.List.{Contains}
use native.Mathlib.Decide.{ℕ_discrete}
use Rattle.std.specs.Prelude.{◌==◌, ◌&&◌, nat_lt, nat_le, cond, max, AllPairs, sum_by}
use Rattle.std.proofs.lemmas.List.Sums.{sum_by-cons}
use Rattle.std.proofs.lemmas.Bool.Decides.{nat_tests}
use mathlib.Core.Option.{some, some-ne-none, some-injective}
use lib.ListN.{get_elem?}
use Rattle.seq_word.specs.Rule.{times, once_below, part_of}

module _ {V : Type 0} (f : V → ℕ) where
  -- the sum after a change of one element
  pub sum_by_at : (xs : List V) (i : ℕ) (v w : V) → get_elem? xs i ≡ some v → sum_by f (set xs i w) + f v ≡ sum_by f xs + f w
  sum_by_at [] i v w at = absurd (some-ne-none v (sym at))
  sum_by_at (x ∷ xs) zero v w at = omega (arith, sum_by-cons f w xs, sum_by-cons f x xs, ap f (some-injective x v at))
  sum_by_at (x ∷ xs) (suc i) v w at = omega (arith, sum_by_at xs i v w at, sum_by-cons f x (set xs i w), sum_by-cons f x xs)

  -- one element's share is at most the sum
  pub share_of_one : (xs : List V) (i : ℕ) (v : V) → get_elem? xs i ≡ some v → f v ≤ sum_by f xs
  share_of_one [] i v at = absurd (some-ne-none v (sym at))
  share_of_one (x ∷ xs) zero v at = omega (arith, sum_by-cons f x xs, ap f (some-injective x v at))
  share_of_one (x ∷ xs) (suc i) v at = omega (arith, share_of_one xs i v at, sum_by-cons f x xs)

  -- and so is that of two
  pub share_of_two : (xs : List V) (i j : ℕ) (v w : V) → i ≢ j → get_elem? xs i ≡ some v → get_elem? xs j ≡ some w → f v + f w ≤ sum_by f xs
  share_of_two [] i j v w apart at at' = absurd (some-ne-none v (sym at))
  share_of_two (x ∷ xs) zero zero v w apart at at' = absurd (apart refl)
  share_of_two (x ∷ xs) zero (suc j) v w apart at at' = omega (arith, share_of_one xs j w at', sum_by-cons f x xs, ap f (some-injective x v at))
  share_of_two (x ∷ xs) (suc i) zero v w apart at at' = omega (arith, share_of_one xs i v at, sum_by-cons f x xs, ap f (some-injective x w at'))
  share_of_two (x ∷ xs) (suc i) (suc j) v w apart at at' = omega (arith, share_of_two xs i j v w (λ e. apart (ap suc e)) at at', sum_by-cons f x xs)

  sum_none : (xs : List V) → ((i : ℕ) (v : V) → get_elem? xs i ≡ some v → f v ≡ 0) → sum_by f xs ≡ 0
  sum_none [] none = refl
  sum_none (x ∷ xs) none = let first : f x ≡ 0 = none zero x refl in omega (arith, sum_none xs (λ i v at. none (suc i) v at), sum_by-cons f x xs)

  -- one element has all, where no other has any
  pub share_alone : (xs : List V) (i : ℕ) (v : V) → get_elem? xs i ≡ some v → ((j : ℕ) (w : V) → j ≢ i → get_elem? xs j ≡ some w → f w ≡ 0) → sum_by f xs ≡ f v
  share_alone [] i v at none = absurd (some-ne-none v (sym at))
  share_alone (x ∷ xs) zero v at none =
      omega (arith, sum_by-cons f x xs, ap f (some-injective x v at), sum_none xs (λ j w bt. none (suc j) w (λ e. omega arith) bt))
  share_alone (x ∷ xs) (suc i) v at none =
      let first : f x ≡ 0 = none zero x (λ e. omega arith) refl in
      omega (arith, sum_by-cons f x xs, share_alone xs i v at (λ j w apart bt. none (suc j) w (λ e. apart (omega arith)) bt))

pub part_of-one : (n : ℕ) → 1 < n → part_of n ≡ 1
part_of-one n more = grind (arith, nat_tests)

pub part_of-none : (n : ℕ) → n ≤ 1 → part_of n ≡ 0
part_of-none n few = grind (arith, nat_tests)

pub once_below-le : (x n : ℕ) → once_below x n ≤ 1
once_below-le x n = grind (arith, nat_tests)

-- one number more below the counter
pub once_below_more : (x n : ℕ) → once_below x (n + 1) ≡ once_below x n + cond (n == x) 1 0
once_below_more x n = grind (arith, nat_tests)

-- the numbers that an advance passes over
pub once_below-max : (x n to : ℕ) → once_below x (max n to) ≡ once_below x n + cond (nat_le n x && nat_lt x to) 1 0
once_below-max x n to = grind (arith, nat_tests)

pub once_below-none : (n : ℕ) → once_below n 0 ≡ 0
once_below-none n = grind (arith, nat_tests)

pub once_below-above : (n owes : ℕ) → n < owes → once_below n owes ≡ 1
once_below-above n owes above = grind (arith, nat_tests)

-- what is cleared at a look was reached
pub once_below-behind : (x n owes : ℕ) → x ≤ n → once_below n owes ≤ once_below n (cond (nat_le owes x) 0 owes)
once_below-behind x n owes le = grind (arith, nat_tests)

pub once_below-greater : (n a b : ℕ) → a ≤ b → once_below n a ≤ once_below n b
once_below-greater n a b le = grind (arith, nat_tests)

pub same-one : (x : ℕ) → ◌≡◌ {A = ℕ} (cond (x == x) 1 0) 1
same-one x = grind (arith, nat_tests)

at_or : (xs : List ℕ) (i d x : ℕ) → i < length xs → get_or xs i d ≡ x → get_elem? xs i ≡ some x
at_or [] i d x within e = absurd (omega arith)
at_or (y ∷ ys) zero d x within e = ap some e
at_or (y ∷ ys) (suc i) d x within e = at_or ys i d x (omega arith) e

-- a word that is counted stands in the list
pub times_contains : (x : ℕ) (xs : List ℕ) → 1 ≤ times x xs → Contains xs x
times_contains x [] h = absurd (omega (arith, h))
times_contains x (y ∷ xs) h = by_test (ℕ_discrete y x) (times_contains x xs) where
  by_test : Dec (y ≡ x) → (1 ≤ times x xs → Contains xs x) → Contains (y ∷ xs) x
  by_test (yes same) rest = (0, omega arith, same)
  by_test (no other) rest =
      let none : ◌≡◌ {A = ℕ} (cond (y == x) 1 0) 0 = grind (arith, nat_tests) in
      let c = rest (omega (arith, h, none, sum_by-cons (λ (z : ℕ). cond (z == x) 1 0) y xs)) in
      (suc c.0, omega (arith, c.1), c.2)

-- where no word stands twice, the words at two places differ
pub distinct : (xs : List ℕ) → ((x : ℕ) → times x xs ≤ 1) → AllPairs (λ x y. x ≢ y) xs
distinct xs once i j d before within same =
    let x = get_or xs j d in
    let here = at_or xs i d x (omega arith) same in
    let there = at_or xs j d x within refl in
    absurd (omega (arith, share_of_two (λ (y : ℕ). cond (y == x) 1 0) xs i j x x (λ e. omega arith) here there, same-one x, once x))
