use Rattle.std.proofs.Common.{◌≡◌, ◌∙◌, true, map, ap, sym, subst, refl, List, ℕ}
use Rattle.std.proofs.lemmas.Result.{IfOk-weaker}
use Rattle.clap.specs.Simple.{is_simple, subcommand_of}
use Rattle.clap.specs.Takes.{takes}
use Rattle.clap.proofs.OnLiterals.{clap_on_literals}
use Rattle.std.specs.Prelude.{IfSome}
use Rattle.daemon_words.specs.Commands.{HasNumbers}
use Rattle.daemon_words.specs.Reader.{AreFlags, reader, told}
use Rattle.daemon_words.proofs.Spelled.{right}
use Rattle.daemon_words.proofs.reading.file_command.Goals as goal

simple : is_simple reader ≡ true
unfolding clap_on_literals
simple = refl

pub returns-in-Ok : goal.returns-in-Ok
returns-in-Ok c =
    let words : List (List ℕ) = map (λ w. w.now) c.args.words.now in
    let shape = c.in_ok-reader.ensures.app in
    let rows = (c.in-Ok.ensures.matches (ap is_simple shape ∙ simple)).1 ∙ ap (λ a. subcommand_of a words) shape in
    record {
      value = c.kept.ensures.value ∙ (right words).exact c.told.result (λ flags. c.told.ensures.value (subst AreFlags (sym rows) flags) ∙ ap told rows);
      numbers = c.kept.ensures.numbers c.told.ensures.numbers;
    }

pub returns-in-Err : goal.returns-in-Err
returns-in-Err c =
    let words : List (List ℕ) = map (λ w. w.now) c.args.words.now in
    let shape = c.in_ok-reader.ensures.app in
    record {
      value = IfOk-weaker c.refused.result _ _ (λ o h. h.0 ∙ (right words).taken (λ t. h.1 (c.in-Err.ensures.passes (ap (λ a. takes a words) shape ∙ t)))) c.refused.ensures.cause;
      numbers = IfOk-weaker c.refused.result _ (λ o. IfSome o HasNumbers) (λ o h. subst (λ p. IfSome p HasNumbers) (sym h.0) tt) c.refused.ensures.cause;
    }
