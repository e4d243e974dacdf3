use Rattle.layer_states.specs.Friends as F
use Rattle.node_friends.proofs.Queues.{holds_after, kept_none}
use Rattle.std.proofs.Common.{◌∙◌, sym}
use Rattle.node_friends.proofs.friends.NodeFriends.kept.Goals as goal

pub invariant_of-self : goal.invariant_of-self
invariant_of-self c = holds_after _ _ (F.keep c.args.lpn c.args.fsn c.args.name.now c.args.pdu.now) c.keep.ensures.state tt c.self.invariant

pub returns-clause-unchanged : goal.returns-clause-unchanged
returns-clause-unchanged c h =
    c.keep.ensures.state
    ∙ kept_none c.self.inside.friends c.args.lpn c.args.fsn c.args.name.now c.args.pdu.now (sym c.keep.ensures.value ∙ h)
    ∙ c.self.view_is
