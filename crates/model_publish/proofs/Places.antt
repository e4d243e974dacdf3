-- A publication put at the place that a walk finds.
use Rattle.std.proofs.Common.{◌≡◌, ℕ, ◌<◌, ◌≤◌, List, length, get_or, ap, arith, insert}
use Rattle.std.proofs.lemmas.List.Edits.{length-insert}
use Rattle.layer_definitions.proofs.PlaceLaws.{put_insert}
use Rattle.layer_definitions.specs.Order.{put_by}

-- a place that isn't behind the row's number and doesn't have it
pub put_new : {A : Type 0} (key : A → ℕ) (rows : List A) (i : ℕ) (row : A)
    → i ≤ length rows → ((k : ℕ) → k < i → key (get_or rows k row) < key row) → (i < length rows → key row ≤ key (get_or rows i row))
    → (i < length rows → key (get_or rows i row) ≡ key row → ⊥) → put_by key row rows ≡ insert rows i row
put_new key rows i row le before there other =
    put_insert key rows i row row le before (λ h. by_order (key row) (key (get_or rows i row)) (there h) (other h))
  where
    by_order : (a b : ℕ) → a ≤ b → (b ≡ a → ⊥) → a < b
    by_order a b h k = omega (arith, h, k)

pub room_for_new : {A : Type 0} (key : A → ℕ) (rows : List A) (i : ℕ) (row : A) → i ≤ length rows
    → put_by key row rows ≡ insert rows i row → length (put_by key row rows) ≤ 8 → length rows < 8
room_for_new key rows i row le e h = omega (arith, h, ap length e, length-insert rows i row le)
