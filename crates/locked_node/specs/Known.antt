-- A rule that allows all.
use Rattle.std.specs.Prelude.{ℕ, ⊤}
use Rattle.atomic_table.specs.Table.{State}

abbrev pub Unruled : State ℕ ℕ → Type 0
Unruled s = ⊤
