use Rattle.layer_states.specs.Friends as F
use Rattle.node_friends.proofs.Queues.{holds_after, poll_sendable}
use Rattle.std.proofs.Common.{◌≡◌}
use Rattle.std.specs.Prelude.{Ok}
use Rattle.node_friends.proofs.friends.NodeFriends.poll.Goals as goal

pub invariant_of-self-2 : goal.invariant_of-self-2
invariant_of-self-2 c = holds_after _ _ (F.poll c.args.now c.args.r.now.fields.src c.args.fsn) c.poll.ensures.state tt c.self.invariant

pub note-requires-clause-sendable : goal.note-requires-clause-sendable
note-requires-clause-sendable c =
    let slots = c.self.inside.friends.slots in
    let answered : F.poll_result slots c.args.now c.args.r.now.fields.src c.args.fsn ≡ Ok c.in-Ok.polled = cc (c.poll.ensures.value, c.in-Ok.is) in
    poll_sendable slots c.args.now c.args.r.now.fields.src c.args.fsn c.in-Ok.polled c.self.invariant answered

pub returns-clause-sendable : goal.returns-clause-sendable
returns-clause-sendable c =
    let slots = c.self.inside.friends.slots in
    let answered : F.poll_result slots c.args.now c.args.r.now.fields.src c.args.fsn ≡ Ok c.in-Ok.polled = cc (c.poll.ensures.value, c.in-Ok.is) in
    poll_sendable slots c.args.now c.args.r.now.fields.src c.args.fsn c.in-Ok.polled c.self.invariant answered
