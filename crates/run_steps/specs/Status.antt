-- How a run ends, as the program tells it.
use Rattle.std.specs.Prelude.{ℕ, List, ◌++◌, codes}
use Rattle.std.specs.Fmt.{decimal}
use Rattle.run_steps.specs.declared.status.Status.{Status}
use Rattle.run_steps.specs.declared.status.Status.TheVariants as S

-- the number that the program ends with
abbrev pub exit_number : Status → ℕ
exit_number S.Done = 0
exit_number S.Usage = 2
exit_number (S.Script line rule) = 3
exit_number S.ReadFault = 4
exit_number S.WriteFault = 5
exit_number S.Memory = 6
exit_number S.TooLong = 7
exit_number (S.NotErased at) = 8
exit_number S.FlashFault = 9
exit_number (S.Report line) = 11

-- the name of a status, and its numbers
abbrev pub status_text : Status → List ℕ
status_text S.Done = codes "done"
status_text S.Usage = codes "usage"
status_text (S.Script line rule) = codes "script " ++ decimal line ++ codes " " ++ decimal rule
status_text S.ReadFault = codes "readfault"
status_text S.WriteFault = codes "writefault"
status_text S.Memory = codes "memory"
status_text S.TooLong = codes "toolong"
status_text (S.NotErased at) = codes "noterased " ++ decimal at
status_text S.FlashFault = codes "flashfault"
status_text (S.Report line) = codes "report " ++ decimal line
