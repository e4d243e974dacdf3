use Rattle.std.proofs.Common.{◌≡◌, [], inl}
use Rattle.std.proofs.lemmas.List.Elements.{All-nil}
use Rattle.live_lines.specs.States.{lines_at, lines_behind}
use Rattle.live_lines.proofs.Rounds.{fails_at}
use Rattle.live_lines.proofs.line_phases.LinePhases.turn.Goals as goal

pub returns-in-Ok-Moved-clause-rounds : goal.returns-in-Ok-Moved-clause-rounds
returns-in-Ok-Moved-clause-rounds g c = record {
  ok = λ used is. rw c.in-Ok-Moved.field-0-is at (c.in-Ok-Moved.ensures.turns.ok used is);
  stop = λ used n is. tt;
}

pub returns-in-Ok-Happens-clause-rounds : goal.returns-in-Ok-Happens-clause-rounds
returns-in-Ok-Happens-clause-rounds g c = record {
  ok = λ used is.
      let h = rw c.in-Ok-Happens.field-0-is at (c.in-Ok-Happens.ensures.turns.ok used is) in
      (([], (All-nil (λ b. b ≡ 10 → ⊥), h.2), inl h.0), h.1);
  stop = λ used n is. tt;
}

pub returns-in-Err-clause-rounds : goal.returns-in-Err-clause-rounds
returns-in-Err-clause-rounds g c = record {
  ok = λ used is. tt;
  stop = λ used n is.
      let lines = c.args.self.now.lines in
      fails_at lines.bearers lines.elements g.S.ClockedSource.clocked c.in-Err.why n
      (lines_behind g.S.Source.left g.S.Source.faults g.S.ClockedSource.time g.E.Sink.held g.E.Sink.pieces g.E.Sink.faults used lines)
      (lines_at g.S.Source.left g.S.Source.faults g.S.ClockedSource.time g.E.Sink.held g.E.Sink.pieces g.E.Sink.faults c.turn.new.self)
      (c.in-Err.ensures.turns.stop used n is);
}
