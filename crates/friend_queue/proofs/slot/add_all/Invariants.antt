-- What is left to be added gives the whole list.
use Rattle.std.proofs.Common.{◌≡◌, drop}
use Rattle.layer_states.specs.Friends.{list_with}
use Rattle.friend_queue.proofs.slot.add_all.Given as goal

abbrev pub invariant-loop-a : goal.invariant-loop-a
invariant-loop-a l = list_with l.list (drop l.a-index l.added) ≡ list_with l.initial.list l.added
