use Rattle.std.proofs.Common.{◌++◌}
use Rattle.report_writer.specs.Writing.{view_of}
use Rattle.live_lines.proofs.Rounds.{has_waited}
use Rattle.live_lines.proofs.line_phases.LinePhases.wait.Goals as goal

pub returns-in-Ok-clause-still : goal.returns-in-Ok-clause-still
returns-in-Ok-clause-still g c = λ used.
    let lines = c.args.self.now.lines in
    let waited = c.in-Ok.ensures in
    has_waited c.in-Ok.awaited (g.S.Source.left lines.source) (g.S.Source.left c.wait.new.self) (used ++ lines.held) lines.number (view_of g.E.Sink.held g.E.Sink.pieces lines.errors)
    (g.S.Source.faults lines.source) (g.S.Source.faults c.wait.new.self) (g.E.Sink.faults lines.errors) (g.S.ClockedSource.time lines.source) (g.S.ClockedSource.time c.wait.new.self)
    waited.unread waited.no_fault waited.counted
