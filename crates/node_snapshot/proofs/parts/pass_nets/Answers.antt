use Rattle.std.proofs.Common.{◌∙◌, sym}
use Rattle.node_snapshot.specs.Parts.{net_records}
use Rattle.node_snapshot.proofs.Passing.{handed, rows_behind, rows_here, rows_end}
use Rattle.node_snapshot.proofs.parts.pass_nets.Goals as goal

pub loop-row-preserved : goal.loop-row-preserved
loop-row-preserved c = c.loop-row.invariant ∙ rows_behind net_records c.args.rows.now c.loop-row.row-index _ c.loop-row.left _ c.loop-row-test.true (sym c.in_ok-left.ensures.value)

pub returns-in_err-left : goal.returns-in_err-left
returns-in_err-left c = record { value = handed c.from_residual.result c.in_err-left.field-0.0 c.from_residual.ensures.1 ∙ sym (c.loop-row.invariant ∙ rows_here net_records c.args.rows.now c.loop-row.row-index _ c.loop-row.left _ c.loop-row-test.true (sym c.in_err-left.ensures.value)) }

pub returns : goal.returns
returns c = record { value = sym (c.loop-row.invariant ∙ rows_end net_records c.args.rows.now c.loop-row.row-index c.loop-row.left c.loop-row-test.false) }
