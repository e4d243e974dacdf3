-- The slots so far are changed, the rest are as they were.
use Rattle.std.proofs.Common.{◌≡◌, ◌++◌, drop, take}
use Rattle.std.specs.Prelude.{◌-◌}
use Rattle.layer_states.specs.Friends.{change_where, is_stored, queued}
use Rattle.layer_states.specs.declared.friends.QueueEntry.TheVariants as Q
use Rattle.friend_queue.proofs.slots.put_all.Given as goal

abbrev pub invariant-loop-s : goal.invariant-loop-s
invariant-loop-s l = l.slots ≡ change_where (is_stored l.f) (queued (Q.Heard (record l.f { ttl = l.f.ttl - 1 }))) (take l.s-index l.initial.slots) ++ drop l.s-index l.initial.slots
