use Rattle.layer_states.specs.Friends as F
use Rattle.layer_states.specs.Friends.{FriendsState}
use Rattle.node_friends.proofs.Queues.{holds_after}
use Rattle.node_friends.proofs.Stored.{heard_befriended, heard_polls}
use Rattle.std.proofs.Common.{◌∙◌, ap}
use Rattle.node_friends.proofs.friends.NodeFriends.heard.Goals as goal

pub invariant_of-self : goal.invariant_of-self
invariant_of-self c = holds_after _ _ (F.put c.args.r.now.fields) c.put.ensures.state c.requires.pdu c.self.invariant

pub returns-then-is_by_master-clause-befriended : goal.returns-then-is_by_master-clause-befriended
returns-then-is_by_master-clause-befriended c a =
    heard_befriended c.args.r.now.fields c.self.inside.friends c.put.new.self c.put.ensures.state a
    ∙ ap (λ (st : FriendsState). F.is_befriended st.slots a) c.self.view_is

pub returns-then-is_by_master-clause-polls : goal.returns-then-is_by_master-clause-polls
returns-then-is_by_master-clause-polls c =
    heard_polls c.args.r.now.fields c.self.inside.friends c.put.new.self c.put.ensures.state
    ∙ ap (λ (st : FriendsState). F.poll_timeouts st.slots) c.self.view_is
