use Rattle.std.proofs.Common.{ap₂, ◌≡◌, ◌∙◌, ◌||◌, codes}
use Rattle.std.proofs.lemmas.Result.{IfOk-weaker}
use Rattle.clap.specs.Simple.{app_of, with_rule}
use Rattle.daemon_words.specs.Reader as W
use Rattle.daemon_words.proofs.reading.run_reader.Goals as goal

pub returns : goal.returns
returns c =
    let file = c.in_ok-file_reader.ensures.app in
    let with_bearers : app_of c.in_ok-arg.field-0 ≡ with_rule (W.file_reader (codes "run")) (W.choice (codes "bearers")) =
    c.in_ok-arg.ensures.shape c.choice.ensures.local ∙ ap₂ with_rule file.0 c.choice.ensures.rule in
    record {
      app = IfOk-weaker c.arg-2.result _ _ (λ r h. (
        h.shape c.flag.ensures.local ∙ ap₂ with_rule with_bearers c.flag.ensures.rule,
        h.globals ∙ ap₂ ◌||◌ (c.in_ok-arg.ensures.globals ∙ ap₂ ◌||◌ file.1 c.choice.ensures.local) c.flag.ensures.local,
      )) c.arg-2.ensures;
    }
