-- Lists: what holds of each two elements, by recursion, and parts of a list in its order.
use Rattle.std.proofs.Common.{suc, List, [], ◌∷◌, ◌++◌, arith}
use Rattle.std.specs.Bool.{⊤}
use Rattle.std.specs.List.{AllByRecursion, AllPairs}
use Rattle.std.proofs.lemmas.List.Elements.{All-from_recursion, recursion_from_All}
use Rattle.std.proofs.lemmas.List.Kept.{AllPairs-cons}
pub use Rattle.mesh_base.proofs.Every.{every_append, every_back, every_front, every_map}

-- Each two, the earlier one first.

abbrev pub Apart : {A : Type 0} → (A → A → Type 0) → List A → Type 0
Apart R [] = ⊤
Apart R (x ∷ xs) = AllByRecursion (R x) xs × Apart R xs

pub apart_append : {A : Type 0} (R : A → A → Type 0) (xs ys : List A) → Apart R xs → Apart R ys → AllByRecursion (λ x. AllByRecursion (R x) ys) xs → Apart R (xs ++ ys)
apart_append R [] ys h k l = k
apart_append R (x ∷ xs) ys h k l = (every_append (R x) xs ys h.0 l.0, apart_append R xs ys h.1 k l.1)

pub apart_push : {A : Type 0} (R : A → A → Type 0) (xs : List A) (y : A) → Apart R xs → AllByRecursion (λ x. R x y) xs → Apart R (xs ++ y ∷ [])
apart_push R [] y h k = (tt, tt)
apart_push R (x ∷ xs) y h k = (every_append (R x) xs (y ∷ []) h.0 (k.0, tt), apart_push R xs y h.1 k.1)

pub apart_map : {A : Type 0} (R S : A → A → Type 0) → ((x y : A) → R x y → S x y) → (xs : List A) → Apart R xs → Apart S xs
apart_map R S f [] h = tt
apart_map R S f (x ∷ xs) h = (every_map (R x) (S x) (f x) xs h.0, apart_map R S f xs h.1)

pub pairs_from_apart : {A : Type 0} (R : A → A → Type 0) (xs : List A) → Apart R xs → AllPairs R xs
pairs_from_apart R [] h = λ i j d lt le. absurd (omega arith)
pairs_from_apart R (x ∷ xs) h = AllPairs-cons R x xs (All-from_recursion (R x) xs h.0) (pairs_from_apart R xs h.1)

pub apart_from_pairs : {A : Type 0} (R : A → A → Type 0) (xs : List A) → AllPairs R xs → Apart R xs
apart_from_pairs R [] h = tt
apart_from_pairs R (x ∷ xs) h =
    (recursion_from_All (R x) xs (λ k d l. h 0 (suc k) d (omega arith) (omega arith)), apart_from_pairs R xs (λ i j d l m. h (suc i) (suc j) d (omega arith) (omega arith)))

-- Parts of a list, in its order.

pub data Sub (A : Type 0) : List A → List A → Type 0 where
  no_part : Sub A [] []
  kept_part : {x : A} {xs ys : List A} → Sub A xs ys → Sub A (x ∷ xs) (x ∷ ys)
  passed_part : {y : A} {xs ys : List A} → Sub A xs ys → Sub A xs (y ∷ ys)

pub sub_nothing : {A : Type 0} (ys : List A) → Sub A [] ys
sub_nothing [] = no_part
sub_nothing (y ∷ ys) = passed_part (sub_nothing ys)

pub sub_append : {A : Type 0} {xs ys vs ws : List A} → Sub A xs ys → Sub A vs ws → Sub A (xs ++ vs) (ys ++ ws)
sub_append no_part k = k
sub_append (kept_part h) k = kept_part (sub_append h k)
sub_append (passed_part h) k = passed_part (sub_append h k)

pub every_sub : {A : Type 0} (P : A → Type 0) {xs ys : List A} → Sub A xs ys → AllByRecursion P ys → AllByRecursion P xs
every_sub P no_part h = tt
every_sub P (kept_part s) h = (h.0, every_sub P s h.1)
every_sub P (passed_part s) h = every_sub P s h.1

pub apart_sub : {A : Type 0} (R : A → A → Type 0) {xs ys : List A} → Sub A xs ys → Apart R ys → Apart R xs
apart_sub R no_part h = tt
apart_sub R (kept_part s) h = (every_sub (R _) s h.0, apart_sub R s h.1)
apart_sub R (passed_part s) h = apart_sub R s h.1
