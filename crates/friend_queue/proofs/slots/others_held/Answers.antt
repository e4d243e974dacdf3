use Rattle.std.proofs.Common.{◌∙◌}
use Rattle.std.specs.Prelude.{nat_lt, not}
use Rattle.layer_states.specs.Friends.{is_of}
use Rattle.layer_states.specs.declared.friends.Friendship.{Friendship}
use Rattle.friend_queue.proofs.Friendships.{count_filtered}
use Rattle.friend_queue.proofs.slots.others_held.Goals as goal

pub returns-clause-value : goal.returns-clause-value
returns-clause-value c =
    c.count_others.ensures.value
    ∙ count_filtered (λ (s : Friendship). nat_lt c.args.now s.until) (λ (s : Friendship). not (is_of c.args.lpn s)) c.args.slots.now
