-- The credentials of the slots so far.
use Rattle.std.proofs.Common.{◌≡◌, length, take}
use Rattle.layer_states.specs.Friends.{friend_keys}
use Rattle.friend_queue.proofs.slots.credentials.Given as goal

abbrev pub invariant-loop-s : goal.invariant-loop-s
invariant-loop-s l =
    record {
      heard : l.list ≡ friend_keys (take l.s-index l.slots);
      length : length l.list ≡ l.s-index;
    }
