use Rattle.std.proofs.Common.{arith}
use Rattle.aes_ccm.proofs.Comparing.{same_turn}
use Rattle.aes_ccm.proofs.sealing.is_same.Goals as goal

pub loop-i-preserved : goal.loop-i-preserved
loop-i-preserved c =
    same_turn c.args.one.now c.args.other.now c.loop-i.difference c.loop-i.i (omega arith) (omega arith) c.loop-i.invariant
