use Rattle.std.proofs.Common.{ℕ, List, ◌∷◌, ◌++◌, ap}
use Rattle.cipher_definitions.specs.Octets.{two_octets}
use Rattle.aes_ccm.proofs.Blocks.{nonce_reads}
use Rattle.aes_ccm.proofs.stream.nonce_block.Goals as goal

pub returns-clause-value : goal.returns-clause-value
returns-clause-value c =
    rw c.to_be_bytes.ensures (ap (λ (n : List ℕ). c.args.flags ∷ (n ++ two_octets c.args.number)) (nonce_reads c.args.nonce.now c.told-nonce))
