use Rattle.std.proofs.Common.{arith, sym, ◌∙◌}
use Rattle.cipher_definitions.proofs.Sums.{xor_lists_end}
use Rattle.aes_ccm.proofs.Loops.{stream_step}
use Rattle.aes_ccm.proofs.stream.add_stream.Goals as goal

pub loop-done-preserved : goal.loop-done-preserved
loop-done-preserved c = record {
  added =
      stream_step c.args.schedule.now c.args.nonce.now c.loop-done.text c.add_to.new.part c.loop-done.done c.min-end.result c.loop-done.number
      c.loop-done-test.true c.min-end.ensures (rw (c.encrypt-block.ensures.value, c.nonce_block.ensures.value) at c.add_to.ensures.value)
      ∙ c.loop-done.invariant.added;
  place = omega arith;
}

pub returns : goal.returns
returns c = sym (xor_lists_end c.loop-done.text _ c.loop-done.done (omega arith)) ∙ c.loop-done.invariant.added
