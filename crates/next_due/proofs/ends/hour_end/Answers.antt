use Rattle.next_due.proofs.Nothing.{from_zero}
use Rattle.next_due.proofs.ends.hour_end.Goals as goal

pub returns : goal.returns
returns c = λ later from time. from_zero c.args.now later 360000 c.period_end.result (c.period_end.ensures.end later time)
