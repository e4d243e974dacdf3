use Rattle.std.proofs.Common.{refl, arith}
use Rattle.cipher_definitions.specs.Cmac.{cmac}
use Rattle.mesh_kdf.proofs.Macs.{mac_turn, mac_end}
use Rattle.mesh_kdf.proofs.mac.cmac_kept.Goals as goal

pub loop-rest-init : goal.loop-rest-init
unfolding cmac
loop-rest-init c = refl

pub loop-rest-preserved : goal.loop-rest-preserved
loop-rest-preserved c =
    rw (c.chained-sum.ensures.value, c.split_at.ensures.front, c.split_at.ensures.back)
    (mac_turn c.args.schedule.now c.loop-rest.sum c.loop-rest.rest.now _ c.loop-rest-test.true c.loop-rest.invariant)

pub returns-clause-value : goal.returns-clause-value
returns-clause-value c =
    rw (c.chained.ensures.value, c.last_block-last.ensures.value)
    (mac_end c.args.schedule.now c.loop-rest.sum c.loop-rest.rest.now _ (omega arith) c.loop-rest.invariant)
