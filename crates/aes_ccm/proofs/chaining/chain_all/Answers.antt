use Rattle.std.proofs.Common.{sym, ◌∙◌}
use Rattle.std.proofs.lemmas.List.{take_min, drop_min}
use Rattle.aes_ccm.proofs.Loops.{chain_turn, chain_end}
use Rattle.aes_ccm.proofs.chaining.chain_all.Goals as goal

pub loop-rest-preserved : goal.loop-rest-preserved
loop-rest-preserved c = record {
  chain =
      rw (c.split_at.ensures.back, c.chained-next.ensures.value, c.filled-block.ensures.value, c.split_at.ensures.front, c.min.ensures, take_min, drop_min)
      (chain_turn c.args.schedule.now c.loop-rest.last c.loop-rest.rest.now c.loop-rest-test.true ∙ c.loop-rest.invariant.chain);
  count = c.chained-next.ensures.length;
}

pub returns-clause-value : goal.returns-clause-value
returns-clause-value c =
    sym (chain_end c.args.schedule.now c.loop-rest.last c.loop-rest.rest.now c.loop-rest-test.false) ∙ c.loop-rest.invariant.chain
