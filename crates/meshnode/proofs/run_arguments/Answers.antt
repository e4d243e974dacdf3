use Rattle.std.proofs.Common.{map, []}
use Rattle.std.specs.Prelude.{string_bytes}
use Rattle.meshnode.proofs.Answering.{no_command, no_memory}
use Rattle.meshnode.proofs.run_arguments.Goals as goal

pub returns-in-Ok : goal.returns-in-Ok
returns-in-Ok g c = record { answers = (map (λ a. string_bytes a) c.as_slice.result.now, c.run_given.ensures.answers) }

pub returns-in-Err-NotText : goal.returns-in-Err-NotText
returns-in-Err-NotText g c = record { answers = ([], no_command _ _ _ _ _ _ _) }

pub returns-in-Err-Memory : goal.returns-in-Err-Memory
returns-in-Err-Memory g c = record { answers = ([], no_memory _ _ _ _ _ _ _ _) }
