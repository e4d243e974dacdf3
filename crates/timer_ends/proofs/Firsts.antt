-- Tests that pass until some end, and what two ends say of both of them.
use Rattle.std.proofs.Common.{◌≡◌, ℕ, ◌+◌, ◌<◌, ◌↔◌, Bool, false, List, [], ◌∷◌, ◌++◌, length, get_or, subst, take, sym, ap, ◌∙◌}
use Rattle.std.specs.Prelude.{◌||◌, All}
use Rattle.std.proofs.lemmas.List.{take_more}
use Rattle.std.proofs.lemmas.List.Elements.{All-from_recursion, All-more, recursion_from_All}
use Rattle.std.specs.List.{AllByRecursion as Every, list_any}
use Rattle.std.proofs.lemmas.Bool.{or_parts}
use Rattle.std.proofs.lemmas.List.Folds.{list_any_more}

pub through : {X Y Z : Type 0} → X ↔ Y → Y ↔ Z → X ↔ Z
through h k = (λ x. k.0 (h.0 x), λ z. h.1 (k.1 z))

-- both facts until the sooner end
pub all_of : {X Y Z P Q : Type 0} → X ↔ P → Y ↔ Q → Z ↔ (P × Q) → (X × Y) ↔ Z
all_of h k z = (λ x. z.1 (h.0 x.0, k.0 x.1), λ w. let both = z.0 w in (h.1 both.0, k.1 both.1))

-- of two tests none passes
pub none_of : (a b : Bool) {P Q Z : Type 0} → (a ≡ false) ↔ P → (b ≡ false) ↔ Q → Z ↔ (P × Q) → ((a || b) ≡ false) ↔ Z
none_of a b {P = P} {Q = Q} {Z = Z} h k z = (
  λ e. let parts = or_parts a b e in z.1 (h.0 parts.0, k.0 parts.1),
  λ w. let both = z.0 w in ap (λ t. t || b) (h.1 both.0) ∙ k.1 both.1,
)

-- and of the items so far with one more
pub none_more : {A : Type 0} (test : A → Bool) (xs : List A) (i : ℕ) (d : A) {P Q Z : Type 0} → i < length xs
    → (list_any test (take i xs) ≡ false) ↔ P → (test (get_or xs i d) ≡ false) ↔ Q → Z ↔ (P × Q)
    → (list_any test (take (i + 1) xs) ≡ false) ↔ Z
none_more test xs i d l h k z =
    let more = list_any_more test xs i d l in
    let both = none_of (list_any test (take i xs)) (test (get_or xs i d)) h k z in
    (λ e. both.0 (sym more ∙ e), λ w. more ∙ both.1 w)

-- A fact of all items so far with one more.

split_last : {A : Type 0} (Holds : A → Type 0) (xs : List A) (x : A) → Every Holds (xs ++ x ∷ []) → Every Holds xs × Holds x
split_last Holds [] x h = (tt, h.0)
split_last Holds (y ∷ ys) x h = let rest = split_last Holds ys x h.1 in ((h.0, rest.0), rest.1)

pub all_more : {A : Type 0} (Holds : A → Type 0) (xs : List A) (i : ℕ) (d : A) {P Q Z : Type 0} → i < length xs
    → All Holds (take i xs) ↔ P → Holds (get_or xs i d) ↔ Q → Z ↔ (P × Q) → All Holds (take (i + 1) xs) ↔ Z
all_more Holds xs i d l h k z = (
  λ all. let every = recursion_from_All Holds (take i xs ++ get_or xs i d ∷ []) (subst (All Holds) (take_more xs i d l) all) in
      let ends = split_last Holds (take i xs) (get_or xs i d) every in
      z.1 (h.0 (All-from_recursion Holds (take i xs) ends.0), k.0 ends.1),
  λ w. let both = z.0 w in All-more Holds xs i d l (h.1 both.0) (k.1 both.1),
)
