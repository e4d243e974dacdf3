use Rattle.std.proofs.Common.{arith, subst, sym}
use Rattle.layer_definitions.specs.Order.{put_by}
use Rattle.model_publish.specs.Own.{AreRowsOf}
use Rattle.model_states.specs.Publication.{Published, accepted_at, row_index}
use Rattle.node_models.proofs.configuration.set_row.Goals as goal

pub set-requires : goal.set-requires
set-requires c =
    let row = c.in-Some-Publish.row in
    let first = c.args.p.now.unicast.0 in
    let elements = c.args.p.now.elements in
    let own = c.requires.own row (grind (arith, c.in-Some-Publish.is, c.in-Some-Publish.field-0-is)) in
    c.rows_law.ensures.few first elements (put_by row_index (accepted_at c.args.now row) c.args.publisher.now.rows) c.requires.few
    (c.rows_law.ensures.put first elements (accepted_at c.args.now row) c.args.publisher.now.rows own c.requires.rows)

pub returns-in-Some-Publish-clause-rows : goal.returns-in-Some-Publish-clause-rows
returns-in-Some-Publish-clause-rows c =
    let row = c.in-Some-Publish.row in
    let first = c.args.p.now.unicast.0 in
    let elements = c.args.p.now.elements in
    let own = c.requires.own row (grind (arith, c.in-Some-Publish.is, c.in-Some-Publish.field-0-is)) in
    subst (λ (p : Published). AreRowsOf first elements p.rows) (sym c.set.ensures.state)
    (c.rows_law.ensures.put first elements (accepted_at c.args.now row) c.args.publisher.now.rows own c.requires.rows)
