-- The events from this one on are left.
use Rattle.std.proofs.Common.{ℕ, ◌-◌, ◌≤◌, List, drop, length, map}
use Rattle.run_definitions.specs.Order.{Task, handle}
use Rattle.node_bearer.specs.Did.{DidBy, GoesOn, IsRider}
use Rattle.node_bearer.proofs.working.work.Given as goal

abbrev pub invariant-loop-done : goal.invariant-loop-done
invariant-loop-done g l = record {
  rider : IsRider g.S.Sharing.parts l.place.numbers.now l.place.turn.now l.b;
  on : GoesOn l.initial.b l.b;
  within : l.done ≤ length l.events;
  some : 1 ≤ l.ahead;
  few : l.ahead ≤ l.most;
  did : (first : ℕ) (tasks : List Task) → DidBy l.place.bearer first tasks (map handle l.events) l.initial.b
      → DidBy l.place.bearer first tasks (map handle (drop l.done l.events)) l.b;
}

abbrev pub decreases-loop-done : goal.decreases-loop-done
decreases-loop-done g l = length l.events - l.done
