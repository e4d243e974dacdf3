-- Rows of subscriptions to virtual addresses.
use Rattle.std.specs.Prelude.{ℕ, List, map}
use Rattle.mesh_base.specs.declared.address.Address.{Address}

-- the label of each
abbrev pub labels_of : List (Address × ℕ × List ℕ) → List (List ℕ)
labels_of rows = map (λ l. l.2) rows
