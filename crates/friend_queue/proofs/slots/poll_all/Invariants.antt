-- The slots so far are changed, the rest are as they were.
use Rattle.std.proofs.Common.{◌≡◌, ◌++◌, drop, take}
use Rattle.layer_states.specs.Friends.{change_where, is_of, polled}
use Rattle.friend_queue.proofs.slots.poll_all.Given as goal

abbrev pub invariant-loop-s : goal.invariant-loop-s
invariant-loop-s l = l.slots ≡ change_where (is_of l.lpn) (polled l.now l.fsn) (take l.s-index l.initial.slots) ++ drop l.s-index l.initial.slots
