use Rattle.aes_block.proofs.Products.{adds_1}
use Rattle.aes_block.proofs.tables.added_1.Goals as goal

pub returns : goal.returns
returns c = adds_1 c.args.octet c.ranges.octet.fits
