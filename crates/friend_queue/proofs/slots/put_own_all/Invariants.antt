-- The slots so far are changed, the rest are as they were.
use Rattle.std.proofs.Common.{◌≡◌, ◌++◌, drop, take}
use Rattle.std.specs.Prelude.{◌&&◌}
use Rattle.layer_states.specs.Friends.{change_where, is_friendship, has_address, queued}
use Rattle.layer_states.specs.declared.friends.QueueEntry.TheVariants as Q
use Rattle.friend_queue.proofs.slots.put_own_all.Given as goal

abbrev pub invariant-loop-s : goal.invariant-loop-s
invariant-loop-s l = l.slots ≡ change_where (λ s. is_friendship s && has_address s l.m.dst) (queued (Q.Own l.m)) (take l.s-index l.initial.slots) ++ drop l.s-index l.initial.slots
