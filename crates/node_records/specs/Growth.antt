-- What a record adds to a table, as its rows tell.
use Rattle.std.specs.Prelude.{ℕ, ◌==◌, ◌&&◌, ◌||◌, not, nat_le, Bool, true, List, length, count_by}
use Rattle.std.specs.List.{find, list_any}
use Rattle.std.specs.Option.{option_map_or}

-- a row of this number comes as a new one: the first row that isn't below it has another number
abbrev pub is_new : {A : Type 0} → (A → ℕ) → ℕ → List A → Bool
is_new key number rows = option_map_or (λ r. not (key r == number)) (find (λ r. nat_le number (key r)) rows) true

-- a row comes as a new one, and all places are held
abbrev pub passes_keyed : {A : Type 0} → (A → ℕ) → ℕ → ℕ → List A → Bool
passes_keyed key most number rows = length rows == most && is_new key number rows

-- this row comes behind the others where it isn't there, and all places are held; `here` tells this row
abbrev pub passes_pushed : {A : Type 0} → ℕ → (A → Bool) → List A → Bool
passes_pushed most here rows = length rows == most && not (list_any here rows)

-- A full list grows by op 1 where this row isn't there, and by op 4 where all rows are of other models, since those of the model go
-- before the new one comes. `own` tells those of the model.
abbrev pub passes_list : {A : Type 0} → ℕ → (A → Bool) → (A → Bool) → ℕ → List A → Bool
passes_list most here own op rows =
    (op == 1 && passes_pushed most here rows) || (op == 4 && count_by (λ row. not (own row)) rows == most)
