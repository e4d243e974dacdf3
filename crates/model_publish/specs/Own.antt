-- Rows of a node's own models: on each of its elements the Generic OnOff Server and the Generic Level Server.
use Rattle.std.specs.Prelude.{◌≡◌, ◌⊎◌, ℕ, suc, ◌+◌, ◌<◌, ◌≤◌, ⊤, List, [], ◌∷◌, All}
use Rattle.record_types.specs.declared.records.PublishRow.{PublishRow}
use Rattle.model_states.specs.declared.publication.Publication.{Publication}
use Rattle.model_states.specs.Publication.{row_index}

-- a row of one of these elements, which are so many from a unicast address on, and of one of its two models
pub record IsOwnRow (unicast elements : ℕ) (row : PublishRow) : Type 0 where
  pub least : unicast ≤ row.element.0
  pub most : row.element.0 < unicast + elements
  pub model : (row.model ≡ 0x1000) ⊎ (row.model ≡ 0x1002)

-- each index is above the one before it, and the first isn't below this number
abbrev pub RiseFrom : ℕ → List Publication → Type 0
RiseFrom n [] = ⊤
RiseFrom n (p ∷ rest) = (n ≤ row_index p) × RiseFrom (suc (row_index p)) rest

-- Rows as a node holds them: in strict order by element and model, each of one of its models.
pub record AreRowsOf (unicast elements : ℕ) (rows : List Publication) : Type 0 where
  pub order : RiseFrom 0 rows
  pub own : All (λ (p : Publication). IsOwnRow unicast elements p.row) rows
