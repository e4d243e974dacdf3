use Rattle.std.proofs.Common.{arith, sym, ◌∙◌}
use Rattle.cipher_definitions.proofs.Sums.{xor_lists_turn, xor_lists_end}
use Rattle.aes_block.proofs.sums.add_to.Goals as goal

pub loop-i-preserved : goal.loop-i-preserved
loop-i-preserved c = xor_lists_turn c.loop-i.part c.args.other.now c.loop-i.i (omega arith) (omega arith) ∙ c.loop-i.invariant

pub returns : goal.returns
returns c = record { value = sym (xor_lists_end c.loop-i.part _ c.loop-i.i (omega arith)) ∙ c.loop-i.invariant }
