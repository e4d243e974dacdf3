use Rattle.std.proofs.Common.{arith}
use Rattle.kept_keys.proofs.Same.{one_more}
use Rattle.kept_keys.proofs.network.are_same_octets.Goals as goal

pub loop-i-preserved : goal.loop-i-preserved
loop-i-preserved c = one_more _ _ _ _ (omega arith) (omega arith) c.loop-i.invariant
