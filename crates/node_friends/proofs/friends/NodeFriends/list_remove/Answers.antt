use Rattle.layer_states.specs.Friends as F
use Rattle.layer_states.specs.Friends.{FriendsState}
use Rattle.mesh_base.specs.declared.address.Address.{Address}
use Rattle.mesh_reading.specs.Held.{reading_of}
use Rattle.node_friends.proofs.Queues.{holds_after}
use Rattle.node_friends.proofs.Steps.{asked}
use Rattle.node_layers.specs.Friendship.{is_by_friend}
use Rattle.std.proofs.Common.{◌≡◌, ◌∙◌, true, List, ap, rules}
use Rattle.node_friends.proofs.friends.NodeFriends.list_remove.Goals as goal

pub invariant_of-self : goal.invariant_of-self
invariant_of-self c = holds_after _ _ (F.list_remove c.args.now c.args.r.now.fields.src c.as_slice.result.now) c.list_remove.ensures.state tt c.self.invariant

pub returns-clause-state : goal.returns-clause-state
returns-clause-state c says =
    let call = λ (l : List Address). F.list_remove c.args.now c.args.r.now.fields.src l in
    let by : is_by_friend (reading_of c.args.r.now) ≡ true = first_of (cc, search rules) in
    c.list_remove.ensures.state
    ∙ ap (λ (s : FriendsState). F.after s (call c.as_slice.result.now)) c.self.view_is
    ∙ ap (λ (l : List Address). F.after c.args.self.now (call l)) c.as_slice.ensures.value
    ∙ asked (is_by_friend (reading_of c.args.r.now)) c.args.self.now (call c.args.l.now.addresses) by
