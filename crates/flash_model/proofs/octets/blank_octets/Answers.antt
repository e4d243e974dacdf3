use Rattle.std.proofs.Common.{arith}
use Rattle.flash_model.proofs.Mixed.{blank_none, blank_more}
use Rattle.flash_model.proofs.octets.blank_octets.Goals as goal

pub loop-i-init : goal.loop-i-init
loop-i-init c = blank_none c.args.mask c.args.at c.args.octets.now

pub loop-i-preserved : goal.loop-i-preserved
loop-i-preserved c =
    blank_more c.args.mask c.args.at c.loop-i.i c.args.octets.now c.loop-i.octets c.masked.result c.loop-i.invariant (omega arith) c.masked.ensures
