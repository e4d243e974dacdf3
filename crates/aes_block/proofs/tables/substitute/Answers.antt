use Rattle.aes_block.proofs.Products.{substitutes}
use Rattle.aes_block.proofs.tables.substitute.Goals as goal

pub returns : goal.returns
returns c = substitutes c.args.octet c.ranges.octet.fits
