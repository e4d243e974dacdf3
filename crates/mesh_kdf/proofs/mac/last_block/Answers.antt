use Rattle.mesh_kdf.proofs.Macs.{complete_block, incomplete_block}
use Rattle.mesh_kdf.proofs.mac.last_block.Goals as goal

pub returns-then-rest-eq16-clause-value : goal.returns-then-rest-eq16-clause-value
returns-then-rest-eq16-clause-value c =
    complete_block _ _ _ _ _ c.if-rest-eq16.true c.encrypt.ensures.value c.doubled-first.ensures.value c.with_subkey.ensures.value

pub returns-else-rest-eq16-clause-value : goal.returns-else-rest-eq16-clause-value
returns-else-rest-eq16-clause-value c =
    incomplete_block _ _ _ _ _ _ _ c.if-rest-eq16.false c.encrypt.ensures.value c.doubled-first.ensures.value c.filled_block.ensures.value
    c.doubled.ensures.value c.with_subkey-else-rest-eq16.ensures.value
