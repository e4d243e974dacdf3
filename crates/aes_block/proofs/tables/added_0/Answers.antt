use Rattle.aes_block.proofs.Products.{adds_0}
use Rattle.aes_block.proofs.tables.added_0.Goals as goal

pub returns : goal.returns
returns c = adds_0 c.args.octet c.ranges.octet.fits
