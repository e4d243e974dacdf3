use Rattle.script_reader.proofs.Decimals.{some_below}
use Rattle.script_reader.proofs.digits.decimal.Goals as goal

pub returns-then-word-most-clause-bound : goal.returns-then-word-most-clause-bound
returns-then-word-most-clause-bound c = some_below _ _ _ c.decimal_digits.ensures.bound c.if-word-most.true
