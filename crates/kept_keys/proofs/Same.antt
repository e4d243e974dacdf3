-- Two lists compared octet by octet, without an end before the last.
use Rattle.std.proofs.Common.{◌≡◌, ℕ, ◌+◌, ◌<◌, ◌==◌, ◌&&◌, Bool, true, false, List, [], ◌∷◌, ◌++◌, length, get_or, take, refl, sym, ap, ◌∙◌, arith}
use Rattle.std.proofs.lemmas.Bool.{eq-eqb}
use Rattle.std.proofs.lemmas.Bool.Decides.{nat_tests}
use Rattle.std.proofs.lemmas.List.{take_more}

-- So far they are the same, or they differ.
abbrev pub AreSame : Bool → List ℕ → List ℕ → ℕ → Type 0
AreSame so_far a b i = (so_far ≡ true → take i a ≡ take i b) × (so_far ≡ false → a ≡ b → ⊥)

same_octet : (x y : ℕ) → (x == y) ≡ true → x ≡ y
same_octet x y h = grind (arith, nat_tests)

with_octet : (t : Bool) (a b : List ℕ) (i : ℕ) → i < length a → i < length b → (get_or a i 0 == get_or b i 0) ≡ t → take i a ≡ take i b → AreSame t a b (i + 1)
with_octet true a b i la lb e same = (
  λ _. take_more a i 0 la
      ∙ ap (λ (l : List ℕ). l ++ get_or a i 0 ∷ []) same
      ∙ ap (λ x. take i b ++ x ∷ []) (same_octet (get_or a i 0) (get_or b i 0) e)
      ∙ sym (take_more b i 0 lb),
  λ h. absurd cc,
)
with_octet false a b i la lb e same = (
  λ h. absurd cc,
  λ h is. absurd (no (sym e ∙ eq-eqb (get_or a i 0) (get_or b i 0) (ap (λ (l : List ℕ). get_or l i 0) is))),
)
  where
    no : false ≡ true → ⊥
    no h = cc

pub one_more : (so_far : Bool) (a b : List ℕ) (i : ℕ) → i < length a → i < length b → AreSame so_far a b i
    → AreSame (so_far && (get_or a i 0 == get_or b i 0)) a b (i + 1)
one_more true a b i la lb h = with_octet (get_or a i 0 == get_or b i 0) a b i la lb refl (h.0 refl)
one_more false a b i la lb h = (λ e. absurd cc, λ e is. h.1 refl is)
