-- The segments of the pieces so far stand behind those that were there.
use Rattle.std.proofs.Common.{◌≡◌, ◌+◌, ◌++◌, length, map, take}
use Rattle.segment_sender.proofs.message.push_round.Given as goal

abbrev pub invariant-loop-i : goal.invariant-loop-i
invariant-loop-i l =
    record {
      pieces : l.list ≡ l.fn.list ++ map (λ i. (l.s.message.name, i)) (take l.i-index l.round);
      length : length l.list ≡ length l.fn.list + l.i-index;
    }
