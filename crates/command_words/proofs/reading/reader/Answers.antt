use Rattle.std.proofs.Common.{ap, ap₂, ◌≡◌, ◌∙◌, true}
use Rattle.std.proofs.lemmas.Result.{IfOk-weaker}
use Rattle.clap.specs.Simple.{App, app_of, app_of_fields, with_subcommand}
use Rattle.command_words.specs.Reader as W
use Rattle.command_words.proofs.reading.reader.Goals as goal

pub returns : goal.returns
returns c =
    let bare_is : app_of c.no_binary_name.result ≡ W.bare = ap app_of_fields c.no_binary_name.ensures ∙ ap (λ (a : App). record a { top = record a.top { no_binary_name = true } }) c.new.ensures.app in
    let with_run : app_of c.in_ok-subcommand.field-0 ≡ with_subcommand W.bare W.run.top =
    c.in_ok-subcommand.ensures.shape c.in_ok-run.ensures.app.1 ∙ ap₂ with_subcommand bare_is (ap (λ (a : App). a.top) c.in_ok-run.ensures.app.0) in
    let with_low : app_of c.in_ok-subcommand-2.field-0 ≡ with_subcommand (with_subcommand W.bare W.run.top) W.lpn.top =
    c.in_ok-subcommand-2.ensures.shape c.in_ok-low_power.ensures.app.1 ∙ ap₂ with_subcommand with_run (ap (λ (a : App). a.top) c.in_ok-low_power.ensures.app.0) in
    let with_audit : app_of c.in_ok-subcommand-3.field-0 ≡ with_subcommand (with_subcommand (with_subcommand W.bare W.run.top) W.lpn.top) W.audit.top =
    c.in_ok-subcommand-3.ensures.shape c.new-2.ensures.local ∙ ap₂ with_subcommand with_low (ap (λ (a : App). a.top) c.new-2.ensures.app) in
    record { app = IfOk-weaker c.subcommand-4.result _ _ (λ r h. h.shape c.in_ok-generate.ensures.app.1 ∙ ap₂ with_subcommand with_audit (ap (λ (a : App). a.top) c.in_ok-generate.ensures.app.0)) c.subcommand-4.ensures }
