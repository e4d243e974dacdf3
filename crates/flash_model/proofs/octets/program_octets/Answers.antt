use Rattle.flash_model.proofs.Mixed.{program_none, program_more}
use Rattle.flash_model.proofs.octets.program_octets.Goals as goal

pub loop-i-init : goal.loop-i-init
loop-i-init c = program_none c.args.mask c.args.at c.args.bytes.now c.args.octets.now

pub loop-i-preserved : goal.loop-i-preserved
loop-i-preserved c =
    program_more c.args.mask c.args.at c.loop-i.i c.args.bytes.now c.args.octets.now c.loop-i.octets c.masked.result c.loop-i.invariant c.loop-i-test.true c.requires c.masked.ensures
