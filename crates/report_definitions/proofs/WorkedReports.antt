-- The worked reports, by computing their texts.
use Rattle.std.proofs.Common.{refl}
use Rattle.std.specs.Fmt.{digits}
use Rattle.hex.specs.Hex.{encode_with}
use Rattle.mesh_base.specs.IvState.{transmit_of}
use Rattle.report_definitions.specs.Text.{hex_digits}
use Rattle.report_definitions.specs.Report.{life_lines, lives_lines, answer_text, outcome_text, words_text}
use Rattle.report_definitions.specs.WorkedReports.{AreWorkedReports}

pub worked_reports : AreWorkedReports
unfolding life_lines lives_lines answer_text outcome_text words_text hex_digits encode_with transmit_of digits
worked_reports = record { requests = refl; requests_with_octets = refl; cut = refl }
