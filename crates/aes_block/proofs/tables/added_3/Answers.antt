use Rattle.aes_block.proofs.Products.{adds_3}
use Rattle.aes_block.proofs.tables.added_3.Goals as goal

pub returns : goal.returns
returns c = adds_3 c.args.octet c.ranges.octet.fits
