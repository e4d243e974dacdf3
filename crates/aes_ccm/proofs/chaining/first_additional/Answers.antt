use Rattle.aes_ccm.proofs.Blocks.{filled_after_two}
use Rattle.aes_ccm.proofs.chaining.first_additional.Goals as goal

pub returns-clause-value : goal.returns-clause-value
returns-clause-value c = rw (c.to_be_bytes.ensures, c.copy_from_slice.ensures.after) (filled_after_two _ _ c.args.front.now)
