-- Rows of the replay list by their sources.
use Rattle.std.specs.Prelude.{ℕ, ◌+◌, ◌≤◌, ⊤, List, [], ◌∷◌}
use Rattle.mesh_base.specs.declared.pair.Name.{Name}

-- the first source isn't below this number, and each other one is above the one before it
abbrev pub RisesFrom : ℕ → List Name → Type 0
RisesFrom n [] = ⊤
RisesFrom n (row ∷ rows) = (n ≤ row.src.0) × RisesFrom (row.src.0 + 1) rows

-- rows stand by their sources, and no source has two
abbrev pub StandsBySource : List Name → Type 0
StandsBySource rows = RisesFrom 0 rows
