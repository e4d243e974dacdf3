use Rattle.node_friends.proofs.ActJobs.{stays}
use Rattle.node_friends.proofs.Steps.{begins, goes_on, none_stay, sent_in_turn}
use Rattle.node_friends.proofs.laws.friends_law.Goals as goal

pub returns : goal.returns
returns c = record { begin = begins; more = goes_on; others = none_stay; sent = sent_in_turn; act = stays }
