use Rattle.aes_block.proofs.Products.{adds_2}
use Rattle.aes_block.proofs.tables.added_2.Goals as goal

pub returns : goal.returns
returns c = adds_2 c.args.octet c.ranges.octet.fits
