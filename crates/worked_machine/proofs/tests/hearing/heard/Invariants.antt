-- The events so far may be had by any node.
use Rattle.std.proofs.Common.{ℕ}
use Rattle.node_bearer.specs.Did.{AreEvents}
use Rattle.worked_machine.proofs.tests.hearing.heard.Given as goal

abbrev pub invariant-loop : goal.invariant-loop
invariant-loop l = (elements : ℕ) → AreEvents elements l.events.items
