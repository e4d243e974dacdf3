-- Lists in another order, and some of their elements.
use Rattle.std.proofs.Common.{◌≡◌, ◌≢◌, ◌∙◌, ◌⊎◌, ℕ, ◌<◌, ◌≤◌, List, ◌++◌, length, get_or, swap, inl, inr, refl, sym, ap, subst, arith, append_assoc, IsPermutation, AllPairs}
use Rattle.std.proofs.lemmas.Bool.{cases_eq, cases_lt}
use Rattle.std.proofs.lemmas.List.Edits.{Swapped, length-swap, swapped_from_swap}
use Rattle.std.proofs.lemmas.List.Sorted.{IsPermutation-append_comm, IsPermutation-append_left, IsPermutation-append_right, IsPermutation-keeps}

-- Each two, by a relation that goes both ways.

-- where a swap of a and b took the element at m from
abbrev From : ℕ → ℕ → ℕ → ℕ → Type 0
From a b m k = ((m ≡ a) × (k ≡ b)) ⊎ (((m ≡ b) × (k ≡ a)) ⊎ ((m ≢ a) × (m ≢ b) × (k ≡ m)))

origin : {X : Type 0} (f g : ℕ → X) (a b m : ℕ) → Swapped f g a b → (m ≡ a) ⊎ (m ≢ a) → (m ≡ b) ⊎ (m ≢ b) → (k : ℕ) × From a b m k × (g m ≡ f k)
origin f g a b m s (inl e) y = (b, inl (e, refl), ap g e ∙ s.0)
origin f g a b m s (inr n) (inl e) = (a, inr (inl (e, refl)), ap g e ∙ s.1)
origin f g a b m s (inr n) (inr o) = (m, inr (inr (n, o, refl)), s.2 m n o)

module _ {X : Type 0} (R : X → X → Type 0) (back : (x y : X) → R x y → R y x) where
  either_way : (xs : List X) → AllPairs R xs → (i j : ℕ) (d : X) → i < length xs → j < length xs → i ≢ j → R (get_or xs i d) (get_or xs j d)
  either_way xs h i j d p q n = by_order (cases_lt i j)
    where
      by_order : (i < j) ⊎ (j ≤ i) → R (get_or xs i d) (get_or xs j d)
      by_order (inl less) = h i j d less q
      by_order (inr other) = back (get_or xs j d) (get_or xs i d) (h j i d (omega arith) p)

  pairs_swap : (xs : List X) (a b : ℕ) → a < length xs → b < length xs → AllPairs R xs → AllPairs R (swap xs a b)
  pairs_swap xs a b p q h i j d less within =
      let len = length-swap xs a b in
      let s = swapped_from_swap xs (swap xs a b) a b d p q refl in
      let x = origin _ _ a b i s (cases_eq i a) (cases_eq i b) in
      let y = origin _ _ a b j s (cases_eq j a) (cases_eq j b) in
      rw (x.2, y.2) (either_way xs h x.0 y.0 d (omega (arith, x.1)) (omega (arith, y.1)) (λ e. omega (arith, x.1, y.1)))

  pub pairs_reordered : (xs ys : List X) → IsPermutation xs ys → AllPairs R xs → AllPairs R ys
  pairs_reordered xs ys moved h = IsPermutation-keeps xs (AllPairs R) h pairs_swap ys moved

-- Parts that change places.

pub middle_swap : {X : Type 0} (a b c d : List X) → IsPermutation ((a ++ b) ++ (c ++ d)) ((a ++ c) ++ (b ++ d))
middle_swap a b c d =
    let inside = IsPermutation-append_right a ((b ++ c) ++ d) ((c ++ b) ++ d) (IsPermutation-append_left d (b ++ c) (c ++ b) (IsPermutation-append_comm b c)) in
    let before : a ++ ((b ++ c) ++ d) ≡ (a ++ b) ++ (c ++ d) = ap (λ l. a ++ l) (append_assoc b c d) ∙ sym (append_assoc a b (c ++ d)) in
    let after : a ++ ((c ++ b) ++ d) ≡ (a ++ c) ++ (b ++ d) = ap (λ l. a ++ l) (append_assoc c b d) ∙ sym (append_assoc a c (b ++ d)) in
    subst (λ l. IsPermutation l ((a ++ c) ++ (b ++ d))) before (subst (λ l. IsPermutation (a ++ ((b ++ c) ++ d)) l) after inside)
