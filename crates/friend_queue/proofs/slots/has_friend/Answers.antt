use Rattle.std.proofs.Common.{◌∙◌}
use Rattle.std.specs.Prelude.{nat_lt}
use Rattle.layer_states.specs.Friends.{is_friend}
use Rattle.layer_states.specs.declared.friends.Friendship.{Friendship}
use Rattle.friend_queue.proofs.Friendships.{any_filtered}
use Rattle.friend_queue.proofs.slots.has_friend.Goals as goal

pub returns : goal.returns
returns c = c.any_standing.ensures ∙ any_filtered (λ (s : Friendship). nat_lt c.args.now s.until) (is_friend c.args.lpn) c.args.slots.now
