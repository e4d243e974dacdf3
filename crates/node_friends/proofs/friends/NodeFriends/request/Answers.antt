use Rattle.layer_states.specs.Friends as F
use Rattle.node_friends.proofs.Queues.{holds_after}
use Rattle.node_friends.proofs.friends.NodeFriends.request.Goals as goal

pub invariant_of-self : goal.invariant_of-self
invariant_of-self c = holds_after _ _ (F.request c.args.now c.in-Some.net.now c.args.p.now.unicast c.args.r.now.fields.src c.args.q.now) c.request.ensures.state tt c.self.invariant
