use Rattle.std.proofs.Common.{sym, ◌∙◌}
use Rattle.report_reader.proofs.Decimals.{decimal_more, decimal_fails, decimal_end}
use Rattle.report_reader.proofs.forms.decimal.Goals as goal

pub returns-in-None : goal.returns-in-None
returns-in-None c = record { value = sym (sym c.loop-c.invariant ∙ decimal_fails _ _ _ c.loop-c-test.true (sym c.with_digit.ensures.value ∙ c.in-None.is)) }

pub loop-c-preserved : goal.loop-c-preserved
loop-c-preserved c = sym (decimal_more _ _ _ _ c.loop-c-test.true (sym c.with_digit.ensures.value ∙ c.in-Some.is)) ∙ c.loop-c.invariant

pub returns : goal.returns
returns c = record { value = sym (sym c.loop-c.invariant ∙ decimal_end _ _ _ c.loop-c-test.false) }
