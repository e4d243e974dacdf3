-- The pieces that a sink in memory was offered.
use Rattle.std.specs.Prelude.{◌≡◌, ℕ, List, [], ◌∷◌, ◌++◌}
use Rattle.atomic_table.specs.Table.{State, Step, Me}
use Rattle.mesh_base.specs.declared.pieces.Offered.{Offered}

-- before the first call of `write`
abbrev pub nothing : Offered
nothing = record { pieces = [] }

-- one piece more
abbrev pub with_piece : List ℕ → Offered → Offered
with_piece piece offered = record { pieces = offered.pieces ++ piece ∷ [] }

-- no rule binds the one word
abbrev pub Unruled : {S : Type 0} → State S Offered → Type 0
Unruled table = Unit {0}

-- the step adds this piece
abbrev pub Adds : {S : Type 0} → List ℕ → Step S → Me S Offered → ℕ → Me S Offered → Type 0
Adds piece step before number after = after ≡ (with_piece piece before.0, before.1)
