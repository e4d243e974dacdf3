use Rattle.std.proofs.Common.{[], inl, inr, map, refl}
use Rattle.std.specs.Prelude.{string_bytes}
use Rattle.std.proofs.lemmas.Result.{on_ok_weaker}
use Rattle.node_file.proofs.Steps.{if_err_so}
use Rattle.meshnoded.proofs.program.Program.run_arguments.Goals as goal

pub returns-in-Ok : goal.returns-in-Ok
returns-in-Ok g c =
    let words = map (λ a. string_bytes a) c.as_slice.result.now in
    record {
      done = on_ok_weaker c.run_given.result.answer (λ done. (words, done)) c.run_given.ensures.done;
      failed = if_err_so _ _ c.run_given.result.answer (λ failure h. (words, h)) c.run_given.ensures.failed;
      source_cause = c.run_given.ensures.source_cause;
      errors_cause = c.run_given.ensures.errors_cause;
      sink_cause = c.run_given.ensures.sink_cause;
    }

pub returns-in-Err-NotText-clause-failed : goal.returns-in-Err-NotText-clause-failed
returns-in-Err-NotText-clause-failed g c = rw c.answered.ensures.value ([], inr (refl, (refl, refl)))

pub returns-in-Err-Memory-clause-failed : goal.returns-in-Err-Memory-clause-failed
returns-in-Err-Memory-clause-failed g c = rw c.answered-in-Err-Memory.ensures.value ([], inl (refl, (refl, refl)))
