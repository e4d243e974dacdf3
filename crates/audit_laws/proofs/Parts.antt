-- Lists: what holds of each element and of each two, through the calls that make lists.
use Rattle.std.proofs.Common.{◌≡◌, ℕ, zero, suc, ◌<◌, Bool, true, false, cond, List, [], ◌∷◌, ◌++◌, map, filter, length, subst, arith, Some}
use Rattle.std.specs.Prelude.{slice_get}
use Rattle.std.specs.List.{All, AllByRecursion as Every}
use Rattle.std.proofs.lemmas.List.Elements.{recursion_from_All}
use Rattle.report_definitions.specs.Record.{list_at}
use Rattle.run_safety.proofs.Lists.{Apart}
use Rattle.event_definitions.proofs.Each.{every_front, every_map}

-- at a place
pub every_at : {A : Type 0} (P : A → Type 0) (xs : List A) (i : ℕ) (x : A) → Every P xs → slice_get xs i ≡ Some x → P x
every_at P [] i x h e = absurd cc
every_at P (y ∷ ys) zero x h e = let same : y ≡ x = cc in subst P same h.0
every_at P (y ∷ ys) (suc i) x h e = every_at P ys i x h.1 e

-- a place in the front of a list
pub get_front : {A : Type 0} (xs ys : List A) (i : ℕ) (x : A) → i < length xs → slice_get (xs ++ ys) i ≡ Some x → slice_get xs i ≡ Some x
get_front [] ys i x h e = absurd (omega arith)
get_front (z ∷ zs) ys zero x h e = e
get_front (z ∷ zs) ys (suc i) x h e = get_front zs ys i x (omega arith) e

-- the list at a place of a list of lists
pub every_list_at : {A : Type 0} (P : A → Type 0) (lists : List (List A)) (k : ℕ) → Every (Every P) lists → Every P (list_at lists k)
every_list_at P [] k h = tt
every_list_at P (x ∷ xs) zero h = h.0
every_list_at P (x ∷ xs) (suc k) h = every_list_at P xs k h.1

pub every_list : {A : Type 0} (P : A → Type 0) (lists : List (List A)) → ((k : ℕ) → Every P (list_at lists k)) → Every (Every P) lists
every_list P [] h = tt
every_list P (x ∷ xs) h = (h 0, every_list P xs (λ k. h (suc k)))

-- lists in lists
pub every_nested : {A : Type 0} (P : A → Type 0) (lists : List (List A)) → All (λ xs. All P xs) lists → Every (Every P) lists
every_nested P lists h = every_map (λ xs. All P xs) (Every P) (λ xs k. recursion_from_All P xs k) lists (recursion_from_All (λ xs. All P xs) lists h)

-- through `map`
pub every_of_map : {A B : Type 0} (P : B → Type 0) (f : A → B) (xs : List A) → Every (λ x. P (f x)) xs → Every P (map f xs)
every_of_map P f [] h = tt
every_of_map P f (x ∷ xs) h = (h.0, every_of_map P f xs h.1)

-- Each two, the earlier one first.

pub apart_front : {A : Type 0} (R : A → A → Type 0) (xs ys : List A) → Apart R (xs ++ ys) → Apart R xs
apart_front R [] ys h = tt
apart_front R (x ∷ xs) ys h = (every_front (R x) xs ys h.0, apart_front R xs ys h.1)

pub apart_back : {A : Type 0} (R : A → A → Type 0) (xs ys : List A) → Apart R (xs ++ ys) → Apart R ys
apart_back R [] ys h = h
apart_back R (x ∷ xs) ys h = apart_back R xs ys h.1

every_filtered : {A : Type 0} (P : A → Type 0) (test : A → Bool) (xs : List A) → Every P xs → Every P (filter test xs)
every_filtered P test [] h = tt
every_filtered {A = A} P test (x ∷ xs) h = pick (test x) (filter test xs) (every_filtered P test xs h.1)
  where
    pick : (b : Bool) (ys : List A) → Every P ys → Every P (cond b (x ∷ ys) ys)
    pick true ys k = (h.0, k)
    pick false ys k = k

pub apart_filter : {A : Type 0} (R : A → A → Type 0) (test : A → Bool) (xs : List A) → Apart R xs → Apart R (filter test xs)
apart_filter R test [] h = tt
apart_filter {A = A} R test (x ∷ xs) h = pick (test x) (filter test xs) (every_filtered (R x) test xs h.0) (apart_filter R test xs h.1)
  where
    pick : (b : Bool) (ys : List A) → Every (R x) ys → Apart R ys → Apart R (cond b (x ∷ ys) ys)
    pick true ys k l = (k, l)
    pick false ys k l = l

pub every_filter : {A : Type 0} (P : A → Type 0) (test : A → Bool) (xs : List A) → Every P xs → Every P (filter test xs)
every_filter P test xs h = every_filtered P test xs h
