use Rattle.std.proofs.Common.{◌+◌, ◌≤◌, length}
use Rattle.std.specs.BTreeSet.{contains}
use Rattle.std.specs.Ordering.{nat_cmp}
use Rattle.log_audit.proofs.Walk.{ReadUpTo}
use Rattle.log_audit.proofs.input.own_sources.Given as goal

abbrev pub invariant-loop-rest : goal.invariant-loop-rest
invariant-loop-rest l = record {
  read : ReadUpTo (λ a. contains nat_cmp l.own a) l.fn.bytes l.rest l.fn.before l.number;
  size : l.number + length l.rest ≤ l.fn.before + length l.fn.bytes;
}

abbrev pub decreases-loop-rest : goal.decreases-loop-rest
decreases-loop-rest l = length l.rest
