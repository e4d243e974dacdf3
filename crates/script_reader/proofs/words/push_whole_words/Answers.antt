use Rattle.std.proofs.Common.{[], ap, ◌∙◌}
use Rattle.std.specs.Option.{option_map_or}
use Rattle.script_definitions.specs.Words.{pieces}
use Rattle.script_reader.proofs.Cuts.{word_more}
use Rattle.script_reader.proofs.words.push_whole_words.Goals as goal

pub loop-rest-preserved : goal.loop-rest-preserved
loop-rest-preserved c =
    word_more _ _ _ _ _ _ (ap (λ o. option_map_or (λ t. pieces 32 t.now) o []) c.in-Some.is ∙ c.cut_piece.ensures.value) c.in_ok-push_word.ensures.ok c.loop-rest.invariant
