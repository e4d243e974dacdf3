-- The slots so far are changed, the rest are as they were.
use Rattle.std.proofs.Common.{◌≡◌, ◌++◌, drop, take}
use Rattle.layer_states.specs.Friends.{change_where, is_noted, with_kept}
use Rattle.friend_queue.proofs.slots.keep_all.Given as goal

abbrev pub invariant-loop-s : goal.invariant-loop-s
invariant-loop-s l = l.slots ≡ change_where (is_noted l.lpn l.fsn) (with_kept l.name l.pdu) (take l.s-index l.initial.slots) ++ drop l.s-index l.initial.slots
