use Rattle.report_definitions.proofs.WorkedReports as texts
use Rattle.report_definitions.proofs.laws.worked_reports.Goals as goal

pub returns : goal.returns
returns c = record { reports = texts.worked_reports }
