use Rattle.std.proofs.Common.{take}
use Rattle.live_lines.specs.Moves.{HasNoLf}
use Rattle.live_lines.proofs.held.first_lf.Given as goal

abbrev pub invariant-loop-at : goal.invariant-loop-at
invariant-loop-at l = HasNoLf (take l.at l.octets)
