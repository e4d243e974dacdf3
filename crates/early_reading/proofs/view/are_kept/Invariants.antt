-- The keys so far are the same.
use Rattle.std.proofs.Common.{◌≡◌, take}
use Rattle.early_reading.proofs.view.are_kept.Given as goal

abbrev pub invariant-loop-i : goal.invariant-loop-i
invariant-loop-i l = take l.i l.a ≡ take l.i l.b
