-- What the report of a run is read as, and what a script asks of a node.
use Rattle.std.specs.Prelude.{ℕ, true, List, [], ◌++◌, map, All}
use Rattle.audit_definitions.specs.Input.{IsInput}
use Rattle.mesh_base.specs.declared.iv_state.IvStep.{IvStep}
use Rattle.mesh_base.specs.declared.iv_state.IvStep.TheVariants as I
use Rattle.mesh_types.specs.declared.answers.Answer.{Answer}
use Rattle.mesh_types.specs.declared.answers.Answer.TheVariants as A
use Rattle.mesh_types.specs.declared.report.ReportLine.{ReportLine}
use Rattle.mesh_types.specs.declared.report.ReportLine.TheVariants as L
use Rattle.report_definitions.specs.Record.{Run}
use Rattle.report_definitions.specs.Report.{lives_lines, report_text}
use Rattle.report_reader.specs.ReportLine.{IsTold, untold}
use Rattle.script_definitions.specs.Events.{events_on}
use Rattle.script_definitions.specs.Ranges.{IsLife}
use Rattle.script_definitions.specs.declared.kind.Grammar.{Grammar}
use Rattle.script_definitions.specs.declared.line.ScriptLine.{ScriptLine}
use Rattle.script_definitions.specs.declared.line.ScriptNet.{ScriptNet}
use Rattle.audit_laws.specs.Laws.{NamesElement}

-- A line as its text tells it: of a step of the IV state not the state that it leads to, and of the IV state of an opening not its hours.

abbrev pub step_as_told : IvStep → IvStep
step_as_told (I.Ignore rule) = I.Ignore rule
step_as_told (I.Begin to) = I.Begin untold
step_as_told (I.Finish to) = I.Finish untold
step_as_told (I.Recover to) = I.Recover untold
step_as_told I.Wait = I.Wait

abbrev pub answer_as_told : Answer → Answer
answer_as_told (A.Beacon index key iv) = A.Beacon index key (step_as_told iv)
answer_as_told answer = answer

abbrev pub as_told : ReportLine → ReportLine
as_told (L.Opened life state mark) = L.Opened life (record state { hours = 0; since = 0 }) mark
as_told (L.Entry at bearer number kind answer) = L.Entry at bearer number kind (answer_as_told answer)
as_told line = line

-- the lines of the report of a run, with the octets of network PDUs
abbrev pub report_lines : Run → List ReportLine
report_lines r = lives_lines true 1 r.lives

-- The report of a run whose lines are within the widths of a report, behind any lines of keys, is an input of an audit: its lines are read as
-- its texts tell them.
abbrev pub ReportsAreRead : Type 0
ReportsAreRead =
    (r : Run) → All (λ line. IsTold (as_told line)) (report_lines r)
    → (keys : List ℕ) (nets : List ScriptNet) → IsInput keys nets []
    → IsInput (keys ++ report_text r true) nets (map as_told (report_lines r))

-- The events that the lines of a life of a script stand for name elements of its node.
abbrev pub LivesNameElements : Type 0
LivesNameElements =
    (g : Grammar) (elements : ℕ) (life : List ScriptLine) → IsLife g elements life → (k : ℕ)
    → All (NamesElement elements) (events_on k life)
