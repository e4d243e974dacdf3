use Rattle.std.proofs.Common.{ap₂, ◌∙◌, ◌||◌}
use Rattle.std.proofs.lemmas.Result.{IfOk-weaker}
use Rattle.clap.specs.Simple.{with_rule}
use Rattle.command_words.proofs.reading.low_power_reader.Goals as goal

pub returns : goal.returns
returns c = record {
  app = IfOk-weaker c.arg.result _ _ (λ r h. (
    h.shape c.flag.ensures.local ∙ ap₂ with_rule c.new.ensures.app c.flag.ensures.rule,
    h.globals ∙ ap₂ ◌||◌ c.new.ensures.local c.flag.ensures.local,
  )) c.arg.ensures;
}
