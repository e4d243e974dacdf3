-- The lines of a life that is written phase by phase.
use Rattle.std.specs.Prelude.{ℕ, ◌+◌, ◌<◌, ◌≤◌, ◌^◌, Bool, List, ◌++◌, length, All}
use Rattle.mesh_types.specs.declared.history.Entry.{Entry}
use Rattle.mesh_types.specs.declared.history.Sent.{Sent}
use Rattle.mesh_types.specs.declared.report.ReportLine.{ReportLine}
use Rattle.node_limits.specs.declared.TheConstants.{BEARERS}
use Rattle.report_definitions.specs.Report.{entry_lines, send_lines}
use Rattle.report_writer.specs.Lives.{HasRoom}

-- The lines of a phase behind so many entries of its life: one for each of its entries, then one for each job that was done in it, bearer by
-- bearer.
abbrev pub phase_lines : Bool → ℕ → List Entry → List (List Sent) → List ReportLine
phase_lines hex first entries sends = entry_lines (first + 1) entries ++ send_lines hex 0 sends

-- its lines have room for the places of its entries and jobs, and for its bearers
pub record FitsPhase (first : ℕ) (entries : List Entry) (sends : List (List Sent)) : Type 0 where
  pub places : first + length entries < 2 ^ 32
  pub bearers : length sends ≤ BEARERS
  pub jobs : All (All HasRoom) sends
