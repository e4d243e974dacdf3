-- The lines of a life that is told phase by phase.
use Rattle.std.specs.Prelude.{ℕ, Bool, List, ◌∷◌, ◌++◌}
use Rattle.std.specs.List.{flat_map}
use Rattle.mesh_node.specs.Told.{PhaseDid}
use Rattle.mesh_types.specs.declared.report.End.{End}
use Rattle.mesh_types.specs.declared.report.Opened.{Opened}
use Rattle.mesh_types.specs.declared.report.ReportLine.{ReportLine}
use Rattle.report_definitions.specs.Report.{end_lines, opened_line}
use Rattle.report_writer.specs.Phases.{phase_lines}

-- the lines of what a phase did
abbrev pub did_lines : Bool → PhaseDid → List ReportLine
did_lines hex did = phase_lines hex did.first did.entries did.sends

-- those of several phases, behind one another
abbrev pub phases_lines : Bool → List PhaseDid → List ReportLine
phases_lines hex did = flat_map (did_lines hex) did

-- the lines of the life with number n, whose phases did this: its opening, its phases, its end
abbrev pub told_lines : Bool → ℕ → Opened → List PhaseDid → End → List ReportLine
told_lines hex n opened did end = opened_line n opened ∷ phases_lines hex did ++ end_lines opened end
