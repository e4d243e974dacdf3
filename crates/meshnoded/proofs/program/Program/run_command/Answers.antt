use Rattle.std.proofs.Common.{refl}
use Rattle.std.proofs.lemmas.Result.{on_ok_weaker}
use Rattle.node_file.proofs.Steps.{if_err_so}
use Rattle.meshnoded.specs.Causes.{IsErrorsFailure, IsSinkFailure, IsSourceFailure}
use Rattle.meshnoded.proofs.Causes.{by_answer, not_opened, unmade_errors, unmade_sink, untold_errors, untold_source, written_errors, written_sink, written_source}
use Rattle.meshnoded.proofs.program.Program.run_command.Goals as goal

pub returns-in-Init-clause-done : goal.returns-in-Init-clause-done
returns-in-Init-clause-done g c =
    rw c.in-Init.is (rw c.answered.ensures.value (on_ok_weaker c.init-answer.result (λ made. (_, refl, made, refl)) c.init-answer.ensures.made))

pub returns-in-Init-clause-failed : goal.returns-in-Init-clause-failed
returns-in-Init-clause-failed g c =
    rw c.in-Init.is (rw c.answered.ensures.value (if_err_so _ _ c.init-answer.result (λ failure h. (_, refl, refl, h)) c.init-answer.ensures.err))

pub returns-in-Init-clause-source_cause : goal.returns-in-Init-clause-source_cause
returns-in-Init-clause-source_cause g c =
    rw c.answered.ensures.value (by_answer IsSourceFailure _ _ c.init-answer.result c.init-answer.ensures.no_fault c.init-answer.ensures.cause)

pub returns-in-Init-clause-errors_cause : goal.returns-in-Init-clause-errors_cause
returns-in-Init-clause-errors_cause g c =
    rw c.answered.ensures.value (unmade_errors (g.H.NodeFiles.unmakes c.args.self.files.now c.args.file.now) c.in-Init.numbers _ _ _ _ _ c.init-answer.result c.init-answer.ensures.err)

pub returns-in-Init-clause-sink_cause : goal.returns-in-Init-clause-sink_cause
returns-in-Init-clause-sink_cause g c =
    rw c.answered.ensures.value (unmade_sink (g.H.NodeFiles.unmakes c.args.self.files.now c.args.file.now) c.in-Init.numbers _ _ _ _ _ c.init-answer.result c.init-answer.ensures.err)

pub returns-in-Show-clause-done : goal.returns-in-Show-clause-done
returns-in-Show-clause-done g c =
    rw c.in-Show.is (rw c.answered-in-Show.ensures.value (on_ok_weaker c.tell-answer.result (λ told. (told, refl)) c.tell-answer.ensures.ok))

pub returns-in-Show-clause-failed : goal.returns-in-Show-clause-failed
returns-in-Show-clause-failed g c =
    rw c.in-Show.is (rw c.answered-in-Show.ensures.value (if_err_so _ _ c.tell-answer.result (λ failure h. (h, refl)) c.tell-answer.ensures.err))

pub returns-in-Show-clause-source_cause : goal.returns-in-Show-clause-source_cause
returns-in-Show-clause-source_cause g c =
    rw c.answered-in-Show.ensures.value (untold_source _ _ _ _ _ _ c.tell-answer.result c.tell-answer.ensures.err)

pub returns-in-Show-clause-errors_cause : goal.returns-in-Show-clause-errors_cause
returns-in-Show-clause-errors_cause g c =
    rw c.answered-in-Show.ensures.value (untold_errors _ _ _ _ _ _ c.tell-answer.result c.tell-answer.ensures.err)

pub returns-in-Show-clause-sink_cause : goal.returns-in-Show-clause-sink_cause
returns-in-Show-clause-sink_cause g c =
    rw c.answered-in-Show.ensures.value (by_answer IsSinkFailure _ _ c.tell-answer.result c.tell-answer.ensures.no_fault c.tell-answer.ensures.cause)

pub returns-in-Check-clause-failed : goal.returns-in-Check-clause-failed
returns-in-Check-clause-failed g c =
    rw c.in-Check.is (rw c.answered-in-Check.ensures.value (if_err_so _ _ c.check-answer.result (λ failure h. (h.0, h.1, h.2, (refl, refl))) c.check-answer.ensures.unopened))

pub returns-in-Check-clause-source_cause : goal.returns-in-Check-clause-source_cause
returns-in-Check-clause-source_cause g c =
    rw c.answered-in-Check.ensures.value (not_opened IsSourceFailure _ refl (λ fault. refl) _ c.check-answer.result c.check-answer.ensures.unopened)

pub returns-in-Check-clause-errors_cause : goal.returns-in-Check-clause-errors_cause
returns-in-Check-clause-errors_cause g c =
    rw c.answered-in-Check.ensures.value (not_opened IsErrorsFailure _ refl (λ fault. refl) _ c.check-answer.result c.check-answer.ensures.unopened)

pub returns-in-Check-clause-sink_cause : goal.returns-in-Check-clause-sink_cause
returns-in-Check-clause-sink_cause g c =
    rw c.answered-in-Check.ensures.value (not_opened IsSinkFailure _ refl (λ fault. refl) _ c.check-answer.result c.check-answer.ensures.unopened)

pub returns-in-Help-clause-source_cause : goal.returns-in-Help-clause-source_cause
returns-in-Help-clause-source_cause g c =
    rw c.answered-in-Help.ensures.value (written_source _ _ c.tell_help-answer.result c.tell_help-answer.ensures.err)

pub returns-in-Help-clause-errors_cause : goal.returns-in-Help-clause-errors_cause
returns-in-Help-clause-errors_cause g c =
    rw c.answered-in-Help.ensures.value (written_errors _ _ c.tell_help-answer.result c.tell_help-answer.ensures.err)

pub returns-in-Help-clause-sink_cause : goal.returns-in-Help-clause-sink_cause
returns-in-Help-clause-sink_cause g c =
    rw c.answered-in-Help.ensures.value (written_sink _ _ _ c.tell_help-answer.result c.tell_help-answer.ensures.err c.tell_help-answer.ensures.cause c.tell_help-answer.ensures.no_fault)

pub returns-in-Version-clause-source_cause : goal.returns-in-Version-clause-source_cause
returns-in-Version-clause-source_cause g c =
    rw c.answered-in-Version.ensures.value (written_source _ _ c.tell_version-answer.result c.tell_version-answer.ensures.err)

pub returns-in-Version-clause-errors_cause : goal.returns-in-Version-clause-errors_cause
returns-in-Version-clause-errors_cause g c =
    rw c.answered-in-Version.ensures.value (written_errors _ _ c.tell_version-answer.result c.tell_version-answer.ensures.err)

pub returns-in-Version-clause-sink_cause : goal.returns-in-Version-clause-sink_cause
returns-in-Version-clause-sink_cause g c =
    rw c.answered-in-Version.ensures.value (written_sink _ _ _ c.tell_version-answer.result c.tell_version-answer.ensures.err c.tell_version-answer.ensures.cause c.tell_version-answer.ensures.no_fault)
