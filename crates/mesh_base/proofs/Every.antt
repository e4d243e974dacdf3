-- What holds of each element of a list, by recursion, through the calls that make lists.
use Rattle.std.proofs.Common.{◌≡◌, ℕ, zero, suc, Bool, true, false, cond, List, [], ◌∷◌, ◌++◌, take, map, filter, length, refl, subst, ap, ◌∙◌, append-nil, arith, Option, Some, None}
use Rattle.std.proofs.lemmas.List.{drop_all, take_all}
use Rattle.std.specs.Bool.{⊤}
use Rattle.std.specs.Prelude.{fold, slice_index_or, slice_set}
use Rattle.std.specs.List.{AllByRecursion as Every, cons_option, filter_map, flat_map, refill, slice_get}
use Rattle.std.specs.Option.{option_to_list}

-- of what stands in an option
abbrev pub Inside : {A : Type 0} → (A → Type 0) → Option A → Type 0
Inside P None = ⊤
Inside P (Some x) = P x

pub every_append : {A : Type 0} (P : A → Type 0) (xs ys : List A) → Every P xs → Every P ys → Every P (xs ++ ys)
every_append P [] ys h k = k
every_append P (x ∷ xs) ys h k = (h.0, every_append P xs ys h.1 k)

pub every_front : {A : Type 0} (P : A → Type 0) (xs ys : List A) → Every P (xs ++ ys) → Every P xs
every_front P [] ys h = tt
every_front P (x ∷ xs) ys h = (h.0, every_front P xs ys h.1)

pub every_back : {A : Type 0} (P : A → Type 0) (xs ys : List A) → Every P (xs ++ ys) → Every P ys
every_back P [] ys h = h
every_back P (x ∷ xs) ys h = every_back P xs ys h.1

pub every_take : {A : Type 0} (P : A → Type 0) (n : ℕ) (xs : List A) → Every P xs → Every P (take n xs)
every_take P zero xs h = tt
every_take P (suc n) [] h = tt
every_take P (suc n) (x ∷ xs) h = (h.0, every_take P n xs h.1)

-- by a stronger fact of each
pub every_map : {A : Type 0} (P Q : A → Type 0) → ((x : A) → P x → Q x) → (xs : List A) → Every P xs → Every Q xs
every_map P Q f [] h = tt
every_map P Q f (x ∷ xs) h = (f x h.0, every_map P Q f xs h.1)

pub every_one : {A : Type 0} (P : A → Type 0) (x : A) → P x → Every P (x ∷ [])
every_one P x h = (h, tt)

pub every_option : {A : Type 0} (P : A → Type 0) (o : Option A) → Inside P o → Every P (option_to_list o)
every_option P None h = tt
every_option P (Some x) h = (h, tt)

pub every_pick : {A : Type 0} (P : A → Type 0) (b : Bool) (xs ys : List A) → Every P xs → Every P ys → Every P (cond b xs ys)
every_pick P true xs ys h k = h
every_pick P false xs ys h k = k

pub every_filter : {A : Type 0} (P : A → Type 0) (test : A → Bool) (xs : List A) → Every P xs → Every P (filter test xs)
every_filter P test [] h = tt
every_filter P test (x ∷ xs) h = every_pick P (test x) (x ∷ filter test xs) (filter test xs) (h.0, every_filter P test xs h.1) (every_filter P test xs h.1)

pub every_mapped : {A B : Type 0} (P : A → Type 0) (Q : B → Type 0) (f : A → B) → ((x : A) → P x → Q (f x)) → (xs : List A) → Every P xs → Every Q (map f xs)
every_mapped P Q f k [] h = tt
every_mapped P Q f k (x ∷ xs) h = (k x h.0, every_mapped P Q f k xs h.1)

pub every_made : {A B : Type 0} (Q : B → Type 0) (f : A → B) → ((x : A) → Q (f x)) → (xs : List A) → Every Q (map f xs)
every_made Q f k [] = tt
every_made Q f k (x ∷ xs) = (k x, every_made Q f k xs)

pub every_flat : {A B : Type 0} (P : A → Type 0) (Q : B → Type 0) (f : A → List B) → ((x : A) → P x → Every Q (f x)) → (xs : List A) → Every P xs → Every Q (flat_map f xs)
every_flat P Q f k [] h = tt
every_flat P Q f k (x ∷ xs) h = every_append Q (f x) (flat_map f xs) (k x h.0) (every_flat P Q f k xs h.1)

pub every_flat_any : {A B : Type 0} (Q : B → Type 0) (f : A → List B) → ((x : A) → Every Q (f x)) → (xs : List A) → Every Q (flat_map f xs)
every_flat_any Q f k [] = tt
every_flat_any Q f k (x ∷ xs) = every_append Q (f x) (flat_map f xs) (k x) (every_flat_any Q f k xs)

pub every_consed : {B : Type 0} (Q : B → Type 0) (o : Option B) (ys : List B) → Inside Q o → Every Q ys → Every Q (cons_option o ys)
every_consed Q None ys h k = k
every_consed Q (Some y) ys h k = (h, k)

pub every_chosen : {A B : Type 0} (P : A → Type 0) (Q : B → Type 0) (f : A → Option B) → ((x : A) → P x → Inside Q (f x)) → (xs : List A) → Every P xs → Every Q (filter_map f xs)
every_chosen P Q f k [] h = tt
every_chosen P Q f k (x ∷ xs) h = every_consed Q (f x) (filter_map f xs) (k x h.0) (every_chosen P Q f k xs h.1)

pub every_set : {A : Type 0} (P : A → Type 0) (xs : List A) (i : ℕ) (x : A) → P x → Every P xs → Every P (slice_set xs i x)
every_set P [] i x p h = tt
every_set P (y ∷ ys) zero x p h = (p, h.1)
every_set P (y ∷ ys) (suc i) x p h = (h.0, every_set P ys i x p h.1)

-- of the one at a place: with a default, or as an option

pub every_get : {A : Type 0} (P : A → Type 0) (xs : List A) (i : ℕ) (d : A) → P d → Every P xs → P (slice_index_or xs i d)
every_get P [] i d p h = p
every_get P (y ∷ ys) zero d p h = h.0
every_get P (y ∷ ys) (suc i) d p h = every_get P ys i d p h.1

pub every_slot : {A : Type 0} (P : A → Type 0) (xs : List A) (i : ℕ) → Every P xs → Inside P (slice_get xs i)
every_slot P [] i h = tt
every_slot P (x ∷ xs) zero h = h.0
every_slot P (x ∷ xs) (suc i) h = every_slot P xs i h.1

pub every_at : {A : Type 0} (P : A → Type 0) (xs : List A) (i : ℕ) (x : A) → slice_get xs i ≡ Some x → Every P xs → P x
every_at P [] i x e h = absurd cc
every_at P (y ∷ ys) zero x e h = subst P (cc) h.0
every_at P (y ∷ ys) (suc i) x e h = every_at P ys i x e h.1

-- by what an option is
pub option_cases : {A : Type 0} (G : Type 0) (o : Option A) → (o ≡ None → G) → ((x : A) → o ≡ Some x → G) → G
option_cases G None h k = h refl
option_cases G (Some x) h k = k x refl

-- what is so at first and stays so is so at the end
pub through_fold : {S A : Type 0} (G : S → Type 0) (P : A → Type 0) (f : S → A → S) → ((s : S) (x : A) → P x → G s → G (f s x)) → (s : S) (xs : List A) → Every P xs → G s → G (fold f s xs)
through_fold G P f k s [] h g = g
through_fold G P f k s (x ∷ xs) h g = through_fold G P f k (f s x) xs h.1 (k s x h.0 g)

-- a slice that keeps its length is filled up from itself
pub refill_same : {A : Type 0} (xs ws : List A) → length ws ≡ length xs → refill (length xs) xs ws ≡ ws
refill_same xs ws e =
    ap (λ ys. take (length xs) (ws ++ ys)) (drop_all (length ws) xs (omega (arith, e)))
    ∙ ap (λ ys. take (length xs) ys) (append-nil ws)
    ∙ take_all (length xs) ws (omega (arith, e))
