-- The friendships of the slots so far.
use Rattle.std.proofs.Common.{◌≡◌, ◌≤◌, length, take}
use Rattle.layer_states.specs.Friends.{poll_timeouts}
use Rattle.friend_queue.proofs.slots.poll_list.Given as goal

abbrev pub invariant-loop-s : goal.invariant-loop-s
invariant-loop-s l = record { polls : l.list ≡ poll_timeouts (take l.s-index l.slots); few : length l.list ≤ l.s-index }
