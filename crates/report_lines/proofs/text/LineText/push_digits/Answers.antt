use Rattle.report_lines.proofs.Texts.{wanted_digits}
use Rattle.report_lines.proofs.text.LineText.push_digits.Goals as goal

pub returns : goal.returns
returns c = record { ok = rw (c.digits_row-row.ensures.value, wanted_digits 8 c.args.digits c.args.n c.requires) at c.push.ensures.ok }
