use Rattle.std.proofs.Common.{sym, refl}
use Rattle.mesh_kdf.proofs.Parts.{last_bits}
use Rattle.mesh_kdf.proofs.derivations.last_6_bits.Goals as goal

pub returns-clause-value : goal.returns-clause-value
returns-clause-value c = sym (last_bits 4 64 c.args.block.now 15 refl c.told-block)
