-- Distinct numbers that all stand in a list are at most as many as it has.
use Rattle.std.proofs.Common.{◌≡◌, ℕ, ◌<◌, ◌≤◌, Bool, true, false, List, [], ◌∷◌, length, filter, refl, sym, ap, subst, ◌∙◌, arith}
use Rattle.std.specs.Prelude.{◌==◌, ◌||◌, not}
use Rattle.std.specs.List.{list_any}
use Rattle.std.proofs.lemmas.Bool.Decides.{nat_tests}
use Rattle.node_records.proofs.Changes.{filter_few}

-- whether a number stands in a list
abbrev pub stands : ℕ → List ℕ → Bool
stands s xs = list_any (λ x. x == s) xs

abbrev pub AreApart : List ℕ → Type 0
AreApart [] = Unit {0}
AreApart (x ∷ xs) = (stands x xs ≡ false) × AreApart xs

pub same_test : (a b : ℕ) → a == b ≡ true → a ≡ b
same_test a b h = grind (arith, nat_tests)

pub own_test : (a : ℕ) → a == a ≡ true
own_test a = grind (arith, nat_tests)

or_later : (b c : Bool) → c ≡ true → (b || c) ≡ true
or_later true c h = refl
or_later false c h = h

pub stands_filter : (t : ℕ → Bool) (s : ℕ) (xs : List ℕ) → stands s xs ≡ true → t s ≡ true → stands s (filter t xs) ≡ true
stands_filter t s [] h k = h
stands_filter t s (x ∷ xs) h k = by_tests (x == s) (t x) refl refl (λ m. stands_filter t s xs m k)
  where
    by_tests : (b c : Bool) → x == s ≡ b → t x ≡ c → (stands s xs ≡ true → stands s (filter t xs) ≡ true) → stands s (filter t (x ∷ xs)) ≡ true
    by_tests true true e f rest = rw (f, e) refl
    by_tests true false e f rest = let same : t x ≡ t s = ap t (same_test x s e) in cc
    by_tests false true e f rest = rw (f, e) (rest (rw e at h))
    by_tests false false e f rest = rw f (rest (rw e at h))

pub filter_stands : (t : ℕ → Bool) (s : ℕ) (xs : List ℕ) → stands s (filter t xs) ≡ true → (stands s xs ≡ true) × (t s ≡ true)
filter_stands t s [] h = absurd (cc)
filter_stands t s (x ∷ xs) h = by_tests (x == s) (t x) refl refl (λ m. filter_stands t s xs m)
  where
    by_tests : (b c : Bool) → x == s ≡ b → t x ≡ c → (stands s (filter t xs) ≡ true → (stands s xs ≡ true) × (t s ≡ true)) → (stands s (x ∷ xs) ≡ true) × (t s ≡ true)
    by_tests true true e f rest = (rw e refl, sym (ap t (same_test x s e)) ∙ f)
    by_tests false true e f rest = let r = rest (rw (f, e) at h) in (rw e r.0, r.1)
    by_tests true false e f rest = (rw e refl, (rest (rw f at h)).1)
    by_tests false false e f rest = let r = rest (rw f at h) in (rw e r.0, r.1)

pub filter_apart : (t : ℕ → Bool) (xs : List ℕ) → AreApart xs → AreApart (filter t xs)
filter_apart t [] apart = apart
filter_apart t (x ∷ xs) apart = by_tests (t x) (stands x (filter t xs)) refl refl (filter_apart t xs apart.1)
  where
    by_tests : (b c : Bool) → t x ≡ b → stands x (filter t xs) ≡ c → AreApart (filter t xs) → AreApart (filter t (x ∷ xs))
    by_tests true true e f rest = let g : stands x xs ≡ true = (filter_stands t x xs f).0 in let h : stands x xs ≡ false = apart.0 in absurd (cc)
    by_tests true false e f rest = rw e (f, rest)
    by_tests false c e f rest = rw e rest

shorter : (a : ℕ) (xs : List ℕ) → stands a xs ≡ true → length (filter (λ x. not (x == a)) xs) < length xs
shorter a [] h = absurd (cc)
shorter a (x ∷ xs) h = by_test (x == a) refl (λ m. shorter a xs m)
  where
    by_test : (b : Bool) → x == a ≡ b → (stands a xs ≡ true → length (filter (λ x. not (x == a)) xs) < length xs) → length (filter (λ x. not (x == a)) (x ∷ xs)) < length (x ∷ xs)
    by_test true e rest = rw e (omega (arith, filter_few (λ x. not (x == a)) xs))
    by_test false e rest = rw e (omega (arith, rest (rw e at h)))

other_test : (s a : ℕ) → (s ≡ a → ⊥) → not (s == a) ≡ true
other_test s a h = grind (arith, nat_tests)

-- distinct numbers that all stand in a list are at most as many
pub at_most : (xs ys : List ℕ) → AreApart xs → ((s : ℕ) → stands s xs ≡ true → stands s ys ≡ true) → length xs ≤ length ys
at_most [] ys apart within = omega arith
at_most (x ∷ xs) ys apart within =
    let here : stands x ys ≡ true = within x (rw (own_test x) refl) in
    let least = shorter x ys here in
    let rest : length xs ≤ length (filter (λ y. not (y == x)) ys) =
    at_most xs (filter (λ y. not (y == x)) ys) apart.1
    (λ s m.
    let there : stands s ys ≡ true = within s (or_later (x == s) (stands s xs) m) in
    let other : s ≡ x → ⊥ = (λ e. let first : stands x xs ≡ true = subst (λ n. stands n xs ≡ true) e m in let no : stands x xs ≡ false = apart.0 in cc) in
    stands_filter (λ y. not (y == x)) s ys there (other_test s x other)) in
    omega (arith, least, rest)
