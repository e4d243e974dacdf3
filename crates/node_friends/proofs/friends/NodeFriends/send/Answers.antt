use Rattle.layer_states.specs.Friends as F
use Rattle.layer_states.specs.Friends.{FriendsState}
use Rattle.node_friends.proofs.Queues.{holds_after}
use Rattle.node_friends.proofs.Stored.{sent_befriended, sent_polls}
use Rattle.std.proofs.Common.{◌∙◌, ap}
use Rattle.node_friends.proofs.friends.NodeFriends.send.Goals as goal

pub invariant_of-self : goal.invariant_of-self
invariant_of-self c = holds_after _ _ (F.put_own c.args.m.now) c.put_own.ensures.state c.requires.sendable c.self.invariant

pub returns-clause-befriended : goal.returns-clause-befriended
returns-clause-befriended c a =
    sent_befriended c.args.m.now c.self.inside.friends c.put_own.new.self c.put_own.ensures.state a
    ∙ ap (λ (st : FriendsState). F.is_befriended st.slots a) c.self.view_is

pub returns-clause-polls : goal.returns-clause-polls
returns-clause-polls c =
    sent_polls c.args.m.now c.self.inside.friends c.put_own.new.self c.put_own.ensures.state
    ∙ ap (λ (st : FriendsState). F.poll_timeouts st.slots) c.self.view_is
