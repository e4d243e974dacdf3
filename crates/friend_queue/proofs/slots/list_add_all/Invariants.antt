-- The slots so far are changed, the rest are as they were.
use Rattle.std.proofs.Common.{◌≡◌, ◌++◌, drop, take}
use Rattle.layer_states.specs.Friends.{change_where, is_friend, list_changed, list_with}
use Rattle.friend_queue.proofs.slots.list_add_all.Given as goal

abbrev pub invariant-loop-s : goal.invariant-loop-s
invariant-loop-s l = l.slots ≡ change_where (is_friend l.lpn) (list_changed l.now (λ list. list_with list l.added)) (take l.s-index l.initial.slots) ++ drop l.s-index l.initial.slots
