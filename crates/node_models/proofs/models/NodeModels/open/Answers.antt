use Rattle.std.proofs.Common.{List, subst, sym}
use Rattle.std.specs.Prelude.{All}
use Rattle.model_publish.specs.Own.{AreRowsOf, IsOwnRow}
use Rattle.model_states.specs.Publication.{Published}
use Rattle.record_types.specs.declared.records.PublishRow.{PublishRow}
use Rattle.node_models.proofs.models.NodeModels.open.Goals as goal

pub returns-clause-within : goal.returns-clause-within
returns-clause-within c =
    let first = c.args.p.now.unicast.0 in
    let elements = c.args.p.now.elements in
    let own = subst (λ (rows : List PublishRow). All (IsOwnRow first elements) rows) (sym c.as_slice.ensures.value) c.own_rows.ensures.own in
    record {
      elements = c.open.ensures.count;
      few = c.models_law.ensures.few c.args.p.now c.requires.said;
      rows = subst (λ (p : Published). AreRowsOf first elements p.rows) (sym c.new.ensures.value)
          (c.rows_law.ensures.opened first elements c.as_slice.result.now own);
    }
