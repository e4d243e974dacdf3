-- How the life of a node ends, as the program tells it.
use Rattle.std.specs.Prelude.{ℕ, List, codes}
use Rattle.live_lines.specs.declared.lines.LineStop.{LineStop}
use Rattle.live_lines.specs.declared.lines.LineStop.TheVariants as L
use Rattle.report_writer.specs.declared.lives.WriteStop.{WriteStop}
use Rattle.report_writer.specs.declared.lives.WriteStop.TheVariants as W
use Rattle.live_node.specs.declared.status.Status.{Status}
use Rattle.live_node.specs.declared.status.Status.TheVariants as S

-- the number that the program ends with
abbrev pub exit_number : Status → ℕ
exit_number S.Done = 0
exit_number S.ReadFault = 4
exit_number S.WriteFault = 5
exit_number S.Memory = 6
exit_number S.FlashFault = 9
exit_number S.Cut = 12
exit_number S.ErrorsFault = 13
exit_number S.WasReset = 14

-- the name of a status
abbrev pub status_text : Status → List ℕ
status_text S.Done = codes "done"
status_text S.ReadFault = codes "readfault"
status_text S.WriteFault = codes "writefault"
status_text S.Memory = codes "memory"
status_text S.FlashFault = codes "flashfault"
status_text S.Cut = codes "cut"
status_text S.ErrorsFault = codes "errorsfault"
status_text S.WasReset = codes "wasreset"

-- the status of a life whose report was broken off so, and of one whose lines were
abbrev pub stop_status : WriteStop → Status
stop_status W.Fault = S.WriteFault
stop_status W.Memory = S.Memory

abbrev pub line_status : LineStop → Status
line_status L.Source = S.ReadFault
line_status L.Errors = S.ErrorsFault
line_status L.Memory = S.Memory
line_status L.Endless = S.Memory
line_status L.OtherNode = S.Memory
