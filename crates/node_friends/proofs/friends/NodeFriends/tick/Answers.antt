use Rattle.layer_states.specs.Friends as F
use Rattle.node_friends.proofs.Queues.{holds_after}
use Rattle.node_friends.proofs.friends.NodeFriends.tick.Goals as goal

pub invariant_of-self : goal.invariant_of-self
invariant_of-self c = holds_after _ _ (F.tick c.args.now) c.tick.ensures.state tt c.self.invariant
