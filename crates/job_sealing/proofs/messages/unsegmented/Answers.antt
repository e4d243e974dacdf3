use Rattle.std.proofs.Common.{arith}
use Rattle.layer_definitions.specs.Lower.{lower_text}
use Rattle.job_sealing.proofs.messages.unsegmented.Goals as goal

pub returns-clause-length : goal.returns-clause-length
unfolding lower_text
returns-clause-length c = rw (c.write.ensures.value, c.extend.ensures.value, c.new-octets.ensures.value) (omega arith)
