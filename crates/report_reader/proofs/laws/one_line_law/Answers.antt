use Rattle.report_reader.proofs.LinesBack.{one_line}
use Rattle.report_reader.proofs.laws.one_line_law.Goals as goal

pub returns : goal.returns
returns c = record { one_line = one_line }
