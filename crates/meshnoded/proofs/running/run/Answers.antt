use Rattle.std.proofs.Common.{refl}
use Rattle.live_node.specs.Ends.{IsErrorsCause, IsSinkCause, IsSourceCause}
use Rattle.meshnoded.proofs.Causes.{by_status, unopened as untouched}
use Rattle.meshnoded.proofs.Ran.{failed_err, has_run_ok, unopened}
use Rattle.meshnoded.specs.Causes.{IsErrorsFailure, IsSinkFailure, IsSourceFailure}
use Rattle.meshnoded.proofs.running.run.Goals as goal

pub returns : goal.returns
returns g c =
    let ended = c.run_node-ended.result in
    let says = c.run_node-ended.ensures in
    let answer = c.answered.result in
    record {
      done = has_run_ok _ _ c.in-Ok.flash c.in-Ok.ensures.opens _ _ _ _ _ _ _ ended.status answer ended.flash says.ended.done says.source_cause says.errors_cause c.answered.ensures.done;
      failed = failed_err _ _ _ _ _ _ _ _ _ (g.H.NodeFiles.refuses c.args.files.now c.args.file.now) answer ended.status ended.closed
          (record {
            start = c.in-Ok.flash;
            opened = c.in-Ok.ensures.opens;
            flash = ended.flash;
            ends = says.ended.ends;
            closed_by = says.closed;
            source_cause = says.source_cause;
            errors_cause = says.errors_cause;
          }) c.answered.ensures.err;
      source_cause = by_status IsSourceFailure IsSourceCause _ _ (λ h. h) (λ s h. h) (λ s h. h) answer ended.status ended.closed says.source_cause c.answered.ensures.done c.answered.ensures.err;
      errors_cause = by_status IsErrorsFailure IsErrorsCause _ _ (λ h. h) (λ s h. h) (λ s h. h) answer ended.status ended.closed says.errors_cause c.answered.ensures.done c.answered.ensures.err;
      sink_cause = by_status IsSinkFailure IsSinkCause _ _ (λ h. h) (λ s h. h) (λ s h. h) answer ended.status ended.closed says.sink_cause c.answered.ensures.done c.answered.ensures.err;
    }

pub returns-in-Err-clause-failed : goal.returns-in-Err-clause-failed
returns-in-Err-clause-failed g c = rw c.from.ensures (unopened _ _ _ _ _ _ _ _ _ (g.H.NodeFiles.refuses c.args.files.now c.args.file.now) refl refl c.in-Err.fault c.in-Err.ensures.refuses)

pub returns-in-Err-clause-source_cause : goal.returns-in-Err-clause-source_cause
returns-in-Err-clause-source_cause g c = rw c.from.ensures (untouched IsSourceFailure _ refl (λ fault. refl) c.in-Err.fault)

pub returns-in-Err-clause-errors_cause : goal.returns-in-Err-clause-errors_cause
returns-in-Err-clause-errors_cause g c = rw c.from.ensures (untouched IsErrorsFailure _ refl (λ fault. refl) c.in-Err.fault)

pub returns-in-Err-clause-sink_cause : goal.returns-in-Err-clause-sink_cause
returns-in-Err-clause-sink_cause g c = rw c.from.ensures (untouched IsSinkFailure _ refl (λ fault. refl) c.in-Err.fault)
