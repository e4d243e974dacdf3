use Rattle.std.proofs.Common.{◌≡◌, false}
use Rattle.turn_lock.specs.Views.{IsPassOf}
use Rattle.worked_parts.proofs.tests.bearers.work.Given as goal

abbrev pub invariant-loop : goal.invariant-loop
invariant-loop g l = record {
  seat : l.bearer.seat.which ≡ l.numbers.which;
  pass : IsPassOf l.lock l.bearer.pass;
  outside : l.bearer.pass.inside ≡ false;
}
