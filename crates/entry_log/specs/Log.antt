-- A history that is kept until it is taken, as contracts see it.
use Rattle.std.specs.Prelude.{◌≡◌, ℕ, ◌≤◌, ◌<◌, ◌^◌, List, length, drop}
use Rattle.mesh_types.specs.declared.history.Entry.{Entry}

pub record LogView : Type 0 where
  -- all entries so far, behind each the word that the counter had been moved to last (0 where it hadn't been), and how many of them were taken
  pub entries : List Entry
  pub moves : List ℕ
  pub taken : ℕ
  -- for how many entries more there is memory
  pub room : ℕ

-- of these entries so many were taken, and the others are in memory
pub record IsKept (entries : List Entry) (taken : ℕ) (fresh : List Entry) : Type 0 where
  pub rest : fresh ≡ drop taken entries
  pub within : taken ≤ length entries
  pub few : length entries < 2 ^ 64
