use Rattle.std.proofs.Common.{◌≡◌, ◌++◌, length}
use Rattle.std.specs.Prelude.{codes}
use Rattle.hex.specs.Hex.{encode_lower}
use Rattle.report_lines.proofs.text.LineText.push_octets.Given as goal

abbrev pub invariant-loop-rest : goal.invariant-loop-rest
invariant-loop-rest l = l.self ++ encode_lower l.rest ≡ l.fn.self ++ codes " " ++ encode_lower l.octets

abbrev pub decreases-loop-rest : goal.decreases-loop-rest
decreases-loop-rest l = length l.rest
