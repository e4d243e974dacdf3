-- By what a test, an option or a result is.
use Rattle.std.proofs.Common.{◌≡◌, Bool, true, false, cond, refl, Option, Some, None, Result, Ok, Err}
pub use Rattle.mesh_base.proofs.Every.{Inside, option_cases}

pub inside_weaker : {A : Type 0} (P Q : A → Type 0) → ((x : A) → P x → Q x) → (o : Option A) → Inside P o → Inside Q o
inside_weaker P Q k None h = tt
inside_weaker P Q k (Some x) h = k x h

pub result_cases : {A B : Type 0} (G : Type 0) (o : Result A B) → ((x : A) → o ≡ Ok x → G) → ((y : B) → o ≡ Err y → G) → G
result_cases G (Ok x) h k = h x refl
result_cases G (Err y) h k = k y refl

pub when : (G : Type 0) (b : Bool) → (b ≡ true → G) → (b ≡ false → G) → G
when G true h k = h refl
when G false h k = k refl

-- by a test and what it then says
pub by_test : {A : Type 0} (P : A → Type 0) (b : Bool) (x y : A) → (b ≡ true → P x) → (b ≡ false → P y) → P (cond b x y)
by_test P true x y h k = h refl
by_test P false x y h k = k refl
