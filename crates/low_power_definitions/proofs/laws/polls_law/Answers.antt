use Rattle.low_power_definitions.proofs.Polls as polls
use Rattle.low_power_definitions.proofs.laws.polls_law.Goals as goal

pub returns : goal.returns
returns c = record { fsn = polls.fsn; asked = polls.asked; once = polls.once }
