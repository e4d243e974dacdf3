use Rattle.low_power_role.proofs.Polls.{fsn}
use Rattle.low_power_role.proofs.low_power_fsn_law.Goals as goal

pub returns : goal.returns
returns c = record { fsn = fsn c.polls_law.ensures.fsn }
