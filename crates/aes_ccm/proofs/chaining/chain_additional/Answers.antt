use Rattle.std.proofs.Common.{arith}
use Rattle.std.proofs.lemmas.List.{take_min, drop_min}
use Rattle.aes_ccm.proofs.Loops.{additional_turn, additional_none}
use Rattle.aes_ccm.proofs.chaining.chain_additional.Goals as goal

pub returns-then-additional-eq0-clause-value : goal.returns-then-additional-eq0-clause-value
returns-then-additional-eq0-clause-value c = additional_none c.args.schedule.now c.args.start.now c.args.additional.now (omega arith)

pub returns-clause-value : goal.returns-clause-value
returns-clause-value c =
    rw (c.chain_all.ensures.value, c.chained-next.ensures.value, c.first_additional-block.ensures.value, c.split_at.ensures.front, c.split_at.ensures.back, c.min.ensures, take_min, drop_min)
    (additional_turn c.args.schedule.now c.args.start.now c.args.additional.now (omega arith))
