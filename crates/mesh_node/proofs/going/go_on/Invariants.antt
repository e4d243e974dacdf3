-- The phases that came so far are through, and were told.
use Rattle.std.proofs.Common.{◌≡◌, false, length}
use Rattle.locked_node.specs.Stands.{IsNode}
use Rattle.mesh_node.specs.Due.{IsDueSince}
use Rattle.mesh_node.specs.Going.{IsBetween}
use Rattle.mesh_node.specs.Lived.{IsUnderWay}
use Rattle.mesh_node.specs.Steps.{IsSameNode}
use Rattle.mesh_node.proofs.going.go_on.Given as goal

abbrev pub invariant-loop-phase : goal.invariant-loop-phase
invariant-loop-phase g l = record {
  numbers : l.seats.numbers ≡ l.fn.life.seats.numbers;
  which : l.seats.drawer.which ≡ l.fn.life.seats.drawer.which;
  same : IsSameNode l.fn.life.node l.node;
  between : IsBetween l.seats l.node;
  counts : length l.seats.counts.items ≡ l.fn.life.bearers;
  usable : l.node.machine.closed ≡ false;
  known : IsNode g.M.Machine.role g.M.Machine.image g.F.Flash.chip l.node;
  under : IsUnderWay (IsDueSince g.M.Machine.role g.M.Machine.quiet (g.F.Flash.chip l.fn.life.node.start)) g.S.PhaseSource.steps g.T.PhaseSink.steps l.initial.source l.source l.initial.sink l.sink l.fn.life.bearers l.node l.seats.drawer l.fn.life.node.flash l.seats.counts.items;
}
