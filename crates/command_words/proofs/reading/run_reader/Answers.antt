use Rattle.std.proofs.Common.{ap₂, ◌≡◌, ◌∙◌, ◌||◌}
use Rattle.std.proofs.lemmas.Result.{IfOk-weaker}
use Rattle.clap.specs.Simple.{app_of, with_rule}
use Rattle.command_words.specs.Reader as W
use Rattle.command_words.proofs.reading.run_reader.Goals as goal

pub returns : goal.returns
returns c =
    let with_hex : app_of c.in_ok-arg.field-0 ≡ with_rule W.named_run W.hex = c.in_ok-arg.ensures.shape c.flag.ensures.local ∙ ap₂ with_rule c.new.ensures.app c.flag.ensures.rule in
    record {
      app = IfOk-weaker c.arg-2.result _ _ (λ r h. (
        h.shape c.flag-2.ensures.local ∙ ap₂ with_rule with_hex c.flag-2.ensures.rule,
        h.globals ∙ ap₂ ◌||◌ (c.in_ok-arg.ensures.globals ∙ ap₂ ◌||◌ c.new.ensures.local c.flag.ensures.local) c.flag-2.ensures.local,
      )) c.arg-2.ensures;
    }
