-- A row put at the place that a walk finds is a row put in its place by number.
use Rattle.std.proofs.Common.{◌≡◌, ℕ, zero, suc, ◌<◌, ◌≤◌, List, [], ◌∷◌, length, get_or, refl, arith, set, insert}
use Rattle.std.proofs.lemmas.Bool.Decides.{nat_tests}
use Rattle.layer_definitions.specs.Order.{put_by}

pub put_set : {A : Type 0} (key : A → ℕ) (rows : List A) (i : ℕ) (row d : A)
    → i < length rows → ((k : ℕ) → k < i → key (get_or rows k d) < key row) → key (get_or rows i d) ≡ key row
    → put_by key row rows ≡ set rows i row
put_set key [] i row d lt before here = absurd (omega arith)
put_set key (x ∷ xs) zero row d lt before here = grind (arith, nat_tests)
put_set key (x ∷ xs) (suc i) row d lt before here =
    let first : key x < key row = before 0 (omega arith) in
    let rest : put_by key row xs ≡ set xs i row = put_set key xs i row d (omega arith) (λ k h. before (suc k) (omega arith)) here in
    grind (arith, nat_tests)

pub put_insert : {A : Type 0} (key : A → ℕ) (rows : List A) (i : ℕ) (row d : A)
    → i ≤ length rows → ((k : ℕ) → k < i → key (get_or rows k d) < key row) → (i < length rows → key row < key (get_or rows i d))
    → put_by key row rows ≡ insert rows i row
put_insert key [] zero row d lt before here = refl
put_insert key [] (suc i) row d lt before here = absurd (omega arith)
put_insert key (x ∷ xs) zero row d lt before here =
    let above : key row < key x = here (omega arith) in
    grind (arith, nat_tests)
put_insert key (x ∷ xs) (suc i) row d lt before here =
    let first : key x < key row = before 0 (omega arith) in
    let rest : put_by key row xs ≡ insert xs i row =
    put_insert key xs i row d (omega arith) (λ k h. before (suc k) (omega arith)) (λ h. here (omega arith)) in
    grind (arith, nat_tests)
