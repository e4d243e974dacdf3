use Rattle.layer_states.specs.Friends.{FriendsState, is_friend}
use Rattle.mesh_base.specs.declared.address.Address.{Address}
use Rattle.node_friends.proofs.ActJobs.{friend_polls}
use Rattle.std.proofs.Common.{◌∙◌, ℕ, List, ap}
use Rattle.std.specs.List.{list_any}
use Rattle.std.specs.Prelude.{◌==◌}
use Rattle.node_friends.proofs.friends.NodeFriends.is_friend.Goals as goal

pub returns : goal.returns
returns c = record {
  value =
      c.has_poll.ensures
      ∙ ap (λ (polls : List (Address × ℕ)). list_any (λ (p : Address × ℕ). p.0.0 == c.args.lpn.0) polls) (c.as_slice.ensures.value ∙ c.polls.ensures.value)
      ∙ friend_polls c.args.lpn c.self.inside.friends.slots
      ∙ ap (λ (st : FriendsState). list_any (is_friend c.args.lpn) st.slots) c.self.view_is;
}
