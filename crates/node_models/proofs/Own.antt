-- Rows of the node's own models, among those of a store and among those that are due.
use Rattle.std.proofs.Common.{◌≡◌, ℕ, Bool, true, List, arith, filter, map}
use Rattle.std.specs.Prelude.{All}
use Rattle.std.proofs.lemmas.Bool.Decides.{nat_tests}
use Rattle.std.proofs.lemmas.List.Elements.{All-filter, All-map, filter_passes}
use Rattle.model_publish.specs.Own.{IsOwnRow}
use Rattle.model_states.specs.declared.publication.Publication.{Publication}
use Rattle.node_layers.specs.Publishing.{is_own_row}
use Rattle.record_types.specs.declared.records.PublishRow.{PublishRow}
use Rattle.store_definitions.specs.Config.{Config}

passes : (c : Config) (row : PublishRow) → is_own_row c row ≡ true → IsOwnRow c.unicast.0 c.elements row
passes c row h = record {
  least = grind (arith, nat_tests, h);
  most = grind (arith, nat_tests, h);
  model = grind (arith, nat_tests, h);
}

pub all_pass : (c : Config) (rows : List PublishRow) → All (IsOwnRow c.unicast.0 c.elements) (filter (is_own_row c) rows)
all_pass c rows = λ k d h. passes c _ (filter_passes (is_own_row c) rows k d h)

pub all_due : (unicast elements : ℕ) (test : Publication → Bool) (rows : List Publication)
    → All (λ (p : Publication). IsOwnRow unicast elements p.row) rows
    → All (IsOwnRow unicast elements) (map (λ (p : Publication). p.row) (filter test rows))
all_due unicast elements test rows h =
    All-map (IsOwnRow unicast elements) (λ (p : Publication). p.row) (filter test rows)
    (All-filter test (λ (p : Publication). IsOwnRow unicast elements p.row) rows h)
