use Rattle.std.proofs.Common.{◌+◌, ◌*◌, sym, ◌∙◌, arith}
use Rattle.script_reader.proofs.Decimals.{more_decimals, decimals_fit, decimal_more, decimal_fails, decimal_end}
use Rattle.script_reader.proofs.digits.decimal_digits.Goals as goal

pub overflow_add-n : goal.overflow_add-n
overflow_add-n c =
    let h = more_decimals c.loop-c.n c.in-Some.d c.loop-c.c-index c.loop-c.invariant.1 c.in-Some.ensures.bound in
    let f = decimals_fit (10 * c.loop-c.n + c.in-Some.d) (c.loop-c.c-index + 1) h (omega arith) in
    omega arith

pub returns-in-None-clause-value : goal.returns-in-None-clause-value
returns-in-None-clause-value c = sym (sym c.loop-c.invariant.0 ∙ decimal_fails _ _ _ c.loop-c-test.true (sym c.decimal_digit.ensures.value ∙ c.in-None.is))

pub loop-c-preserved : goal.loop-c-preserved
loop-c-preserved c = (
  sym (decimal_more _ _ _ _ c.loop-c-test.true (sym c.decimal_digit.ensures.value ∙ c.in-Some.is)) ∙ c.loop-c.invariant.0,
  more_decimals c.loop-c.n c.in-Some.d c.loop-c.c-index c.loop-c.invariant.1 c.in-Some.ensures.bound,
)

pub returns-clause-value : goal.returns-clause-value
returns-clause-value c = sym (sym c.loop-c.invariant.0 ∙ decimal_end _ _ _ c.loop-c-test.false)
