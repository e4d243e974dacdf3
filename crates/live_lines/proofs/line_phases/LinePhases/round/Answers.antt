use Rattle.std.proofs.Common.{List, ℕ, subst, sym, refl, arith, inr}
use Rattle.live_lines.specs.States.{lines_at, lines_behind}
use Rattle.live_lines.specs.Turns.{IsFrontOf}
use Rattle.live_lines.proofs.Rounds.{rounds_of, tells, waits_fail}
use Rattle.live_lines.proofs.line_phases.LinePhases.round.Goals as goal

pub returns-in-Ok-Input-clause-rounds : goal.returns-in-Ok-Input-clause-rounds
returns-in-Ok-Input-clause-rounds g c =
    let at = lines_behind g.S.Source.left g.S.Source.faults g.S.ClockedSource.time g.E.Sink.held g.E.Sink.pieces g.E.Sink.faults in
    let first = c.args.self.now.lines in
    let mid = c.wait.new.self.lines in
    let waited = c.in-Ok-Input.ensures in
    record {
      ok = λ used is.
          rounds_of first.bearers first.elements g.S.ClockedSource.clocked mid.bearers mid.elements c.turn.result c.turn.new.self.front
          (at used first) (at used mid) (λ now. at now c.turn.new.self.lines) waited.frame.1 waited.frame.2 (rw c.in-Ok-Input.field-0-is at (waited.still used))
          (c.turn.ensures.rounds.ok used (subst (λ (f : List ℕ). IsFrontOf f used) (sym waited.front) is));
      stop = λ used n is.
          rw (← waited.frame.1, ← waited.frame.2, ← (rw c.in-Ok-Input.field-0-is at (waited.still used)))
          (c.turn.ensures.rounds.stop used n (subst (λ (f : List ℕ). IsFrontOf f used) (sym waited.front) is));
    }

pub returns-in-Ok-Passed-clause-rounds : goal.returns-in-Ok-Passed-clause-rounds
returns-in-Ok-Passed-clause-rounds g c =
    let at = lines_behind g.S.Source.left g.S.Source.faults g.S.ClockedSource.time g.E.Sink.held g.E.Sink.pieces g.E.Sink.faults in
    let first = c.args.self.now.lines in
    let mid = c.wait.new.self.lines in
    let waited = c.in-Ok-Passed.ensures in
    let passed = rw c.in-Ok-Passed.field-0-is at waited.passed in
    record {
      ok = λ used is. (
        (
          used,
          subst (λ (f : List ℕ). IsFrontOf f used) (sym waited.front) is,
          inr (passed.0, tells c.in-Ok-Passed.ticks (at used first) (at used mid) passed.1 (rw c.in-Ok-Passed.field-0-is at (waited.still used))),
        ),
        ((omega arith, refl), passed.1.0, passed.1.1),
      );
      stop = λ used n is. tt;
    }

pub returns-in-Err-clause-rounds : goal.returns-in-Err-clause-rounds
returns-in-Err-clause-rounds g c = record {
  ok = λ used is. tt;
  stop = λ used n is.
      let lines = c.args.self.now.lines in
      let h = c.in-Err.ensures.stop used in
      waits_fail lines.bearers lines.elements g.S.ClockedSource.clocked c.in-Err.why n
      (lines_behind g.S.Source.left g.S.Source.faults g.S.ClockedSource.time g.E.Sink.held g.E.Sink.pieces g.E.Sink.faults used lines)
      (lines_at g.S.Source.left g.S.Source.faults g.S.ClockedSource.time g.E.Sink.held g.E.Sink.pieces g.E.Sink.faults c.wait.new.self.lines) h.0 h.1 h.2;
}
