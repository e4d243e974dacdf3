use Rattle.flash_model.proofs.Bits.{masked_lem}
use Rattle.flash_model.proofs.octets.masked.Goals as goal

pub returns : goal.returns
returns c = masked_lem c.args.mask c.args.old c.args.new c.ranges.mask.fits c.ranges.old.fits
