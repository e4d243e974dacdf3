-- The octets so far are all of these.
use Rattle.std.proofs.Common.{◌≡◌, ◌&&◌, take}
use Rattle.std.specs.List.{list_all}
use Rattle.std.specs.Prelude.{nat_le}
use Rattle.script_reader.proofs.reading.is_printable.Given as goal

abbrev pub invariant-loop-b : goal.invariant-loop-b
invariant-loop-b l = l.so_far ≡ list_all (λ b. nat_le 32 b && nat_le b 126) (take l.b-index l.line)
