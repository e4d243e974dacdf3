-- The last two octets of a block have its lowest 14 bits.
use Rattle.std.proofs.Common.{sym}
use Rattle.mesh_kdf.proofs.Parts.{last_14}
use Rattle.mesh_kdf.proofs.derivations.last_14_bits.Goals as goal

pub returns-clause-value : goal.returns-clause-value
returns-clause-value c = rw c.from_be_bytes.ensures (sym (last_14 c.args.block.now 14 c.told-block))
