-- The octets so far are the same, or the keys differ.
use Rattle.kept_keys.proofs.Same.{AreSame}
use Rattle.kept_keys.proofs.network.are_same_octets.Given as goal

abbrev pub invariant-loop-i : goal.invariant-loop-i
invariant-loop-i l = AreSame l.so_far l.a l.b l.i
