use Rattle.std.proofs.Common.{◌∙◌}
use Rattle.daemon_words.proofs.Cuts.{word_more}
use Rattle.daemon_words.proofs.keys.words_of.Goals as goal

pub loop-piece-preserved : goal.loop-piece-preserved
loop-piece-preserved c = c.in_ok-push_word.ensures.ok ∙ word_more _ _ _ _ c.loop-piece-test.true c.loop-piece.invariant
