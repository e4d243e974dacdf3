use Rattle.layer_states.specs.Friends as F
use Rattle.node_friends.proofs.Queues.{holds_after}
use Rattle.node_friends.proofs.friends.NodeFriends.note.Goals as goal

pub invariant_of-self : goal.invariant_of-self
invariant_of-self c = holds_after _ _ (F.keep c.args.r.now.fields.src c.args.fsn c.name_of.result c.seal-pdu.result) c.keep.ensures.state tt c.self.invariant
