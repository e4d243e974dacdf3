use Rattle.std.proofs.Common.{◌≡◌, length}
use Rattle.cipher_definitions.specs.Cmac.{cmac}
use Rattle.mesh_kdf.proofs.Macs.{mac_from}
use Rattle.mesh_kdf.proofs.mac.cmac_kept.Given as goal

abbrev pub invariant-loop-rest : goal.invariant-loop-rest
invariant-loop-rest l = mac_from l.schedule l.sum l.rest ≡ cmac l.schedule l.fn.m

abbrev pub decreases-loop-rest : goal.decreases-loop-rest
decreases-loop-rest l = length l.rest
