use Rattle.std.proofs.Common.{◌≡◌, ◌≤◌, length, take, drop}
use Rattle.audit_definitions.specs.Input.{lines_of}
use Rattle.log_audit.specs.Reading.{AreKeyLines}
use Rattle.log_audit.proofs.input.read_keys.Given as goal

abbrev pub invariant-loop-rest : goal.invariant-loop-rest
invariant-loop-rest l = record {
  are : AreKeyLines (take (length l.keys.items) (lines_of l.fn.bytes)) l.keys.items;
  behind : lines_of l.rest ≡ drop (length l.keys.items) (lines_of l.fn.bytes);
  few : length l.keys.items ≤ 16;
  size : length l.rest ≤ length l.fn.bytes;
}

abbrev pub decreases-loop-rest : goal.decreases-loop-rest
decreases-loop-rest l = length l.rest
