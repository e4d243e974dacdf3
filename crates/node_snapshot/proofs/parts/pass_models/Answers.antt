use Rattle.std.proofs.Common.{◌∙◌, ◌-◌, ◌+◌, sym, arith}
use Rattle.node_limits.specs.declared.TheConstants.{ELEMENTS}
use Rattle.node_snapshot.specs.Parts.{element_records}
use Rattle.node_snapshot.proofs.Passing.{handed, numbers_behind, numbers_here, numbers_end}
use Rattle.node_snapshot.proofs.parts.pass_models.Goals as goal

pub loop-element-preserved : goal.loop-element-preserved
loop-element-preserved c = c.loop-element.invariant ∙ numbers_behind (element_records c.args.onoffs.now c.args.levels.now) c.loop-element.element (ELEMENTS - (c.loop-element.element + 1)) (ELEMENTS - c.loop-element.element) c.loop-element.left _ (sym c.in_ok-left.ensures.value) (omega (arith, c.loop-element-test.true))

pub returns-in_err-left : goal.returns-in_err-left
returns-in_err-left c = record { value = handed c.from_residual.result c.in_err-left.field-0.0 c.from_residual.ensures.1 ∙ sym (c.loop-element.invariant ∙ numbers_here (element_records c.args.onoffs.now c.args.levels.now) c.loop-element.element (ELEMENTS - (c.loop-element.element + 1)) (ELEMENTS - c.loop-element.element) c.loop-element.left _ (sym c.in_err-left.ensures.value) (omega (arith, c.loop-element-test.true))) }

pub returns : goal.returns
returns c = record { value = sym (c.loop-element.invariant ∙ numbers_end (element_records c.args.onoffs.now c.args.levels.now) c.loop-element.element (ELEMENTS - c.loop-element.element) c.loop-element.left (omega (arith, c.loop-element-test.false))) }
