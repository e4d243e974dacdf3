use Rattle.std.proofs.Common.{sym}
use Rattle.meshnoded.proofs.program.Program.run_given.Goals as goal

pub returns-in-Ok : goal.returns-in-Ok
returns-in-Ok g c =
    let same = rw (sym c.as_slice.ensures.value) at c.in-Ok.ensures.value in
    let said = c.run_words.ensures in
    record {
      done = rw same at said.done;
      failed = rw same at said.failed;
      source_cause = said.source_cause;
      errors_cause = said.errors_cause;
      sink_cause = said.sink_cause;
    }
