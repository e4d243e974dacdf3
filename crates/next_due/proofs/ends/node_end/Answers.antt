use Rattle.timer_ends.proofs.Firsts.{all_of}
use Rattle.next_due.proofs.ends.node_end.Goals as goal

pub returns : goal.returns
returns c = λ later from time. all_of (c.hour_end.ensures later from time) (c.beacon_end.ensures later from time) (c.sooner.ensures.before later)
