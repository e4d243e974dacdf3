-- The lines of one bearer more.
use Rattle.std.proofs.Common.{◌≡◌, ◌∙◌, ◌⊎◌, inl, inr, ℕ, zero, suc, ◌+◌, ◌<◌, Bool, true, false, List, [], ◌∷◌, ◌++◌, length, map, take, drop, get_or, refl, sym, ap, subst, arith}
use Rattle.std.specs.Prelude.{slice_index_or, slice_set, All, ◌||◌}
use Rattle.std.specs.List.{Contains}
use Rattle.std.proofs.lemmas.List.{take_more}
use Rattle.std.proofs.lemmas.List.Elements.{All-push, Contains-get_or}
use Rattle.life_laws.specs.Phases.{both_of}

pub both_nil : {A : Type 0} (xs : List (List A)) → both_of xs [] ≡ xs
both_nil [] = refl
both_nil (x ∷ xs) = refl

-- more was put behind the list of one place
lines_at : {V A : Type 0} (f : V → List A) (k : ℕ) (xs : List V) (v d : V) (y : List A) (ys : List (List A)) → k < length xs → f v ≡ f (slice_index_or xs k d) ++ y
    → take (suc k) (map f (slice_set xs k v)) ++ both_of (drop (suc k) (map f (slice_set xs k v))) ys ≡ take k (map f xs) ++ both_of (drop k (map f xs)) (y ∷ ys)
lines_at f zero [] v d y ys lt e = absurd (omega (arith, lt))
lines_at f (suc k) [] v d y ys lt e = absurd (omega (arith, lt))
lines_at f zero (x ∷ xs) v d y ys lt e = ap (λ l. l ∷ both_of (map f xs) ys) e
lines_at f (suc k) (x ∷ xs) v d y ys lt e = ap (λ l. f x ∷ l) (lines_at f k xs v d y ys (omega (arith, lt)) e)

pub lines_step : {V A : Type 0} (f : V → List A) (k : ℕ) (xs : List V) (v d : V) (y : List A) (ys : List (List A)) → k < length xs → f v ≡ f (slice_index_or xs k d) ++ y
    → take (k + 1) (map f (slice_set xs k v)) ++ both_of (drop (k + 1) (map f (slice_set xs k v))) ys ≡ take k (map f xs) ++ both_of (drop k (map f xs)) (y ∷ ys)
lines_step f k xs v d y ys lt e =
    let one : suc k ≡ k + 1 = omega arith in
    subst (λ n. take n (map f (slice_set xs k v)) ++ both_of (drop n (map f (slice_set xs k v))) ys ≡ take k (map f xs) ++ both_of (drop k (map f xs)) (y ∷ ys)) one (lines_at f k xs v d y ys lt e)

-- one item more of those that were gone through
pub all_more : {A : Type 0} (P : A → Type 0) (xs : List A) (i : ℕ) (x : A) → i < length xs → x ≡ get_or xs i x → All P (take i xs) → P x → All P (take (i + 1) xs)
all_more P xs i x lt is h p = subst (All P) (sym (take_more xs i x lt ∙ ap (λ y. take i xs ++ y ∷ []) (sym is))) (All-push P (take i xs) x h p)

pub contains_at : {A : Type 0} (xs : List A) (i : ℕ) (x : A) → i < length xs → x ≡ get_or xs i x → Contains xs x
contains_at xs i x lt is = subst (Contains xs) (sym is) (Contains-get_or xs i x lt)

pub or_true : (a b : Bool) → (a || b) ≡ true → (a ≡ true) ⊎ (b ≡ true)
or_true true b h = inl refl
or_true false b h = inr h
