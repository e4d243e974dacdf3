use Rattle.std.proofs.Common.{◌≡◌, length}
use Rattle.std.specs.List.{range_with_len}
use Rattle.segment_sender.proofs.message.pieces_of.Given as goal

abbrev pub invariant-loop-i : goal.invariant-loop-i
invariant-loop-i l = record { pieces : l.pieces ≡ range_with_len 0 l.i; length : length l.pieces ≡ l.i }
