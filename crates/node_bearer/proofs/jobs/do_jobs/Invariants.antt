-- The jobs from this one on are left.
use Rattle.std.proofs.Common.{ℕ, List, ◌++◌, drop}
use Rattle.run_definitions.specs.Order.{Task, write_tasks}
use Rattle.node_bearer.specs.Did.{DidBy, GoesOn, IsRider}
use Rattle.node_bearer.proofs.jobs.do_jobs.Given as goal

abbrev pub invariant-loop-j : goal.invariant-loop-j
invariant-loop-j g l = record {
  rider : IsRider g.S.Sharing.parts l.place.numbers.now l.place.turn.now l.b;
  on : GoesOn l.initial.b l.b;
  did : (first : ℕ) (tasks rest : List Task) → DidBy l.place.bearer first tasks (write_tasks l.at 0 l.event l.jobs ++ rest) l.initial.b
      → DidBy l.place.bearer first tasks (write_tasks l.at l.j l.event (drop l.j l.jobs) ++ rest) l.b;
}
