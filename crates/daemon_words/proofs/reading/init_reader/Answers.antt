use Rattle.std.proofs.Common.{ap₂, ◌≡◌, ◌∙◌, ◌||◌, codes}
use Rattle.std.proofs.lemmas.Result.{IfOk-weaker}
use Rattle.clap.specs.Simple.{App, app_of, with_rule}
use Rattle.daemon_words.specs.Reader as W
use Rattle.daemon_words.proofs.reading.init_reader.Goals as goal

abbrev a1 : App
a1 = with_rule (W.file_reader (codes "init")) (W.place (codes "UNICAST"))

abbrev a2 : App
a2 = with_rule a1 (W.place (codes "ELEMENTS"))

abbrev a3 : App
a3 = with_rule a2 (W.place (codes "IV"))

abbrev a4 : App
a4 = with_rule a3 (W.place (codes "FLAGS"))

pub returns : goal.returns
returns c =
    let file = c.in_ok-file_reader.ensures.app in
    let with_1 : app_of c.in_ok-arg.field-0 ≡ a1 = c.in_ok-arg.ensures.shape c.place.ensures.local ∙ ap₂ with_rule file.0 c.place.ensures.rule in
    let with_2 : app_of c.in_ok-arg-2.field-0 ≡ a2 = c.in_ok-arg-2.ensures.shape c.place-2.ensures.local ∙ ap₂ with_rule with_1 c.place-2.ensures.rule in
    let with_3 : app_of c.in_ok-arg-3.field-0 ≡ a3 = c.in_ok-arg-3.ensures.shape c.place-3.ensures.local ∙ ap₂ with_rule with_2 c.place-3.ensures.rule in
    let with_4 : app_of c.in_ok-arg-4.field-0 ≡ a4 = c.in_ok-arg-4.ensures.shape c.place-4.ensures.local ∙ ap₂ with_rule with_3 c.place-4.ensures.rule in
    record {
      app = IfOk-weaker c.arg-5.result _ _ (λ r h. (
        h.shape c.place-5.ensures.local ∙ ap₂ with_rule with_4 c.place-5.ensures.rule,
        h.globals ∙ ap₂ ◌||◌ (c.in_ok-arg-4.ensures.globals ∙ ap₂ ◌||◌ (c.in_ok-arg-3.ensures.globals ∙ ap₂ ◌||◌ (c.in_ok-arg-2.ensures.globals
            ∙ ap₂ ◌||◌ (c.in_ok-arg.ensures.globals ∙ ap₂ ◌||◌ file.1 c.place.ensures.local) c.place-2.ensures.local) c.place-3.ensures.local) c.place-4.ensures.local) c.place-5.ensures.local,
      )) c.arg-5.ensures;
    }
