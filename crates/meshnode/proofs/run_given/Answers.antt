use Rattle.std.proofs.Common.{sym}
use Rattle.meshnode.proofs.Answering.{no_memory}
use Rattle.meshnode.proofs.run_given.Goals as goal

pub returns-in-Ok : goal.returns-in-Ok
returns-in-Ok g c =
    let same = rw (sym c.as_slice.ensures.value) at c.in-Ok.ensures.value in
    record { answers = rw same at c.run_words.ensures.answers }

pub returns-in-Err : goal.returns-in-Err
returns-in-Err g c = record { answers = no_memory _ _ _ _ _ _ _ _ }
