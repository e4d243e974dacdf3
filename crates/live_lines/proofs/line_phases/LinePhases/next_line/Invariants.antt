-- Moves were made, and of the line so far a front is kept.
use Rattle.std.proofs.Common.{List, ℕ}
use Rattle.live_lines.specs.States.{IsSameNode, lines_behind}
use Rattle.live_lines.specs.Turns.{IsFrontOf}
use Rattle.live_lines.proofs.Moving.{HasMoved}
use Rattle.live_lines.proofs.line_phases.LinePhases.next_line.Given as goal

abbrev pub invariant-loop-move : goal.invariant-loop-move
invariant-loop-move g l = record {
  same : IsSameNode l.fn.self.lines l.self.lines;
  moved : (used : List ℕ) → IsFrontOf l.fn.self.front used
      → HasMoved l.fn.self.lines.bearers l.fn.self.lines.elements l._move l.self.front
      (lines_behind g.S.Source.left g.S.Source.faults g.S.ClockedSource.time g.E.Sink.held g.E.Sink.pieces g.E.Sink.faults used l.fn.self.lines)
      (λ now. lines_behind g.S.Source.left g.S.Source.faults g.S.ClockedSource.time g.E.Sink.held g.E.Sink.pieces g.E.Sink.faults now l.self.lines);
}
