use Rattle.std.proofs.Common.{sym, ◌∙◌}
use Rattle.daemon_words.proofs.Clocks.{behind, here}
use Rattle.daemon_words.proofs.reading.clock_place.Goals as goal

pub returns-then-is_clock-clause-value : goal.returns-then-is_clock-clause-value
returns-then-is_clock-clause-value c =
    here c.args.words.now c.loop-i.i _ c.loop-i-test.true (sym c.is_clock.ensures.value ∙ c.if-is_clock.true) c.loop-i.invariant

pub loop-i-preserved : goal.loop-i-preserved
loop-i-preserved c =
    behind c.args.words.now c.loop-i.i _ c.loop-i-test.true (sym c.is_clock.ensures.value ∙ c.if-is_clock.false) c.loop-i.invariant
