-- What contracts see of a refill that may be asked for.
use Rattle.std.specs.Prelude.{ℕ}
use Rattle.atomic_table.specs.Seated.{TableId}

-- At which words; the word that was found in the counter, and before that the mark, at or below it
pub record DryView : Type 0 where
  pub which : TableId
  pub next : ℕ
  pub mark : ℕ
