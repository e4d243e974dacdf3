use Rattle.std.proofs.Common.{arith}
use Rattle.seq_word.proofs.Sums as sums
use Rattle.seq_word.proofs.laws.distinct.Goals as goal

pub returns-clause-value : goal.returns-clause-value
returns-clause-value c = λ words once. sums.distinct words once

pub returns-clause-any_order : goal.returns-clause-any_order
returns-clause-any_order c = λ drawn words fewer once. sums.distinct words (λ x. omega (arith, fewer x, once x))
