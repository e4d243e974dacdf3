use Rattle.std.proofs.Common.{◌+◌, ◌*◌, sym, ◌∙◌, arith}
use Rattle.script_reader.proofs.Numbers.{more_digits, digits_fit, number_more, number_fails, number_end, number_is}
use Rattle.script_reader.proofs.digits.number.Goals as goal

pub overflow_add-n : goal.overflow_add-n
overflow_add-n c =
    let h = more_digits c.loop-c.n c.in-Some.d c.loop-c.c-index c.loop-c.invariant.1 c.in-Some.ensures.bound in
    let f = digits_fit (16 * c.loop-c.n + c.in-Some.d) (c.loop-c.c-index + 1) c.args.digits h (omega arith) (omega arith) in
    omega arith

pub returns-in-None-clause-value : goal.returns-in-None-clause-value
returns-in-None-clause-value c =
    sym (number_is _ _ _ c.if-word-digits.false (sym c.loop-c.invariant.0 ∙ number_fails _ _ _ c.loop-c-test.true (sym c.digit.ensures.value ∙ c.in-None.is)))

pub loop-c-preserved : goal.loop-c-preserved
loop-c-preserved c = (
  sym (number_more _ _ _ _ c.loop-c-test.true (sym c.digit.ensures.value ∙ c.in-Some.is)) ∙ c.loop-c.invariant.0,
  more_digits c.loop-c.n c.in-Some.d c.loop-c.c-index c.loop-c.invariant.1 c.in-Some.ensures.bound,
)

pub returns-clause-value : goal.returns-clause-value
returns-clause-value c = sym (number_is _ _ _ c.if-word-digits.false (sym c.loop-c.invariant.0 ∙ number_end _ _ _ c.loop-c-test.false))
