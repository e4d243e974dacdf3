use Rattle.std.proofs.Common.{arith, sym}
use Rattle.segment_sender.proofs.Messages.{no_bit}
use Rattle.segment_sender.proofs.message.has_bit.Goals as goal

pub returns-then-i-ge32 : goal.returns-then-i-ge32
returns-then-i-ge32 c = sym (no_bit c.args.block c.args.i (omega arith) (omega arith))
