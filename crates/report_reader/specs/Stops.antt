-- Why a line was not read.
use Rattle.std.specs.Prelude.{ℕ, List}
use Rattle.report_reader.specs.ReportLine.{IsNoReportLine}
use Rattle.report_reader.specs.declared.reading.LineStop.{LineStop}
use Rattle.report_reader.specs.declared.reading.LineStop.TheVariants as S

-- no report line has this text; memory may run out at any time
abbrev pub IsLineStop : List ℕ → LineStop → Type 0
IsLineStop text S.NotLine = IsNoReportLine text
IsLineStop text S.Memory = Unit {0}
