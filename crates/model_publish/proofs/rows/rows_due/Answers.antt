-- One row more, where it is due.
use Rattle.std.proofs.Common.{ap, arith, length}
use Rattle.model_states.specs.Publication.{is_row_due}
use Rattle.model_publish.proofs.Due.{next_due, few_due}
use Rattle.model_publish.proofs.rows.rows_due.Goals as goal

pub add_due-requires : goal.add_due-requires
add_due-requires c =
    let listed = ap length c.loop-held.invariant.0 in
    let few = few_due (is_row_due c.args.asked c.args.now) c.as_slice-held-items.result.now c.loop-held.held-index in
    omega (arith, listed, few, c.loop-held-test.true, c.as_slice-held-items.ensures.length)

pub loop-held-preserved : goal.loop-held-preserved
loop-held-preserved c = (
  next_due (is_row_due c.args.asked c.args.now) c.as_slice-held-items.result.now c.loop-held.held-index _ c.loop-held.invariant.0
      c.add_due.ensures c.loop-held-test.true,
  c.as_slice-held-items.ensures.value,
)
