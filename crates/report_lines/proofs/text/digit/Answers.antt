use Rattle.report_lines.proofs.Numbers.{place_fits, place_is_some}
use Rattle.report_lines.proofs.text.digit.Goals as goal

pub pow-requires : goal.pow-requires
pow-requires c = place_fits c.args.place c.requires

pub nonzero_div-result : goal.nonzero_div-result
nonzero_div-result c = rw c.pow.ensures (place_is_some c.args.place)
