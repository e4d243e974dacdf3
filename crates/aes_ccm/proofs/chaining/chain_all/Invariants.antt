-- The chaining of what is left, from where it stands, is that of all.
use Rattle.std.proofs.Common.{◌≡◌, length}
use Rattle.cipher_definitions.specs.Octets.{whole_blocks}
use Rattle.cipher_definitions.specs.Aes.{chained}
use Rattle.aes_ccm.proofs.chaining.chain_all.Given as goal

abbrev pub invariant-loop-rest : goal.invariant-loop-rest
invariant-loop-rest l = record {
  chain : chained l.schedule l.last (whole_blocks l.rest) ≡ chained l.schedule l.initial.last (whole_blocks l.initial.rest);
  count : length l.last ≡ 16;
}

abbrev pub decreases-loop-rest : goal.decreases-loop-rest
decreases-loop-rest l = length l.rest
