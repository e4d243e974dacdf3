-- The first of the keys that rows make, and which of a row's two keys is sent with.
use Rattle.std.proofs.Common.{◌≡◌, ℕ, Bool, true, false, cond, List, [], ◌∷◌, ◌++◌, Option, Some, None, refl, ap, ◌∙◌}
use Rattle.std.specs.Prelude.{◌&&◌, if◌then◌else◌, is_some, unwrap_or}
use Rattle.std.specs.List.{AllByRecursion as ByRecursion, find}
use Rattle.layer_definitions.specs.KeyRefresh.{keys_of}

first : {A : Type 0} (p : A → Bool) (x : A) (xs : List A) → p x ≡ true → find p (x ∷ xs) ≡ Some x
first p x xs e = ap (λ t. cond t (Some x) (find p xs)) e

passed : {A : Type 0} (p : A → Bool) (x : A) (xs : List A) → p x ≡ false → find p (x ∷ xs) ≡ find p xs
passed p x xs e = ap (λ t. cond t (Some x) (find p xs)) e

-- A row's keys in front of others.

pub row_first : {A : Type 0} (p : A → Bool) (make : Bool → List ℕ → A) (key : List ℕ) (next : Option (List ℕ)) (rest : List A)
    → p (make false key) ≡ true → find p (keys_of make key next ++ rest) ≡ Some (make false key)
row_first p make key None rest e = first p (make false key) rest e
row_first p make key (Some k) rest e = first p (make false key) (make true k ∷ rest) e

pub row_passed : {A : Type 0} (p : A → Bool) (make : Bool → List ℕ → A) (key : List ℕ) (next : Option (List ℕ)) (rest : List A)
    → ((fresh : Bool) (k : List ℕ) → p (make fresh k) ≡ false) → find p (keys_of make key next ++ rest) ≡ find p rest
row_passed p make key None rest e = passed p (make false key) rest (e false key)
row_passed p make key (Some k) rest e = passed p (make false key) (make true k ∷ rest) (e false key) ∙ passed p (make true k) rest (e true k)

pub row_new : {A : Type 0} (p : A → Bool) (make : Bool → List ℕ → A) (key k : List ℕ) (rest : List A) → p (make false key) ≡ false → p (make true k) ≡ true
    → find p (keys_of make key (Some k) ++ rest) ≡ Some (make true k)
row_new p make key k rest e f = passed p (make false key) (make true k ∷ rest) e ∙ first p (make true k) rest f

pub some_once : {A : Type 0} (a b : A) → Some a ≡ Some b → a ≡ b
some_once a b e = cc

pub and_false : (t : Bool) → (t && false) ≡ false
and_false true = refl
and_false false = refl

pub and_true : (t : Bool) → (t && true) ≡ t
and_true true = refl
and_true false = refl

pub both_false : (t u : Bool) → t ≡ false → (t && u) ≡ false
both_false t u e = ap (λ x. x && u) e

pub every_behind : {A : Type 0} (P : A → Type 0) (xs ys : List A) → ByRecursion P xs → ByRecursion P ys → ByRecursion P (xs ++ ys)
every_behind P [] ys a b = b
every_behind P (x ∷ xs) ys (p, a) b = (p, every_behind P xs ys a b)

-- The new key is sent with where the test holds and there is one.

pub old_sent : (t : Bool) (next : Option (List ℕ)) (key : List ℕ) → (t && is_some next) ≡ false → (if t then unwrap_or next key else key) ≡ key
old_sent true None key e = refl
old_sent true (Some k) key e = absurd (cc)
old_sent false next key e = refl

pub new_sent : (t : Bool) (next : Option (List ℕ)) (key : List ℕ) → (t && is_some next) ≡ true
    → (k : List ℕ) × (next ≡ Some k) × ((if t then unwrap_or next key else key) ≡ k)
new_sent true None key e = absurd (cc)
new_sent true (Some k) key e = (k, refl, refl)
new_sent false next key e = absurd (cc)
