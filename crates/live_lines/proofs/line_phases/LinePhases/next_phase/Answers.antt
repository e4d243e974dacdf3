use Rattle.std.proofs.Common.{ℕ, ◌∙◌, ap}
use Rattle.live_lines.specs.Saying.{phase_of}
use Rattle.script_definitions.specs.declared.kind.Grammar.TheVariants as G
use Rattle.live_lines.specs.States.{lines_behind}
use Rattle.live_lines.proofs.Rounds.{lose}
use Rattle.live_lines.proofs.line_phases.LinePhases.next_phase.Goals as goal

pub phase_of-requires : goal.phase_of-requires
phase_of-requires g c =
    let said = rw c.in-Ok-Some.field-0-is at c.in-Ok-Some.ensures.ranges in
    record { ranges = (G.Node, c.args.self.now.lines.elements, said) }

pub returns-in-Ok-clause-ok : goal.returns-in-Ok-clause-ok
returns-in-Ok-clause-ok g c = λ used is.
    let came = rw c.in-Ok-Some.field-0-is at (c.in-Ok-Some.ensures.ok used is) in (
      came.0.0,
      came.0.1,
      record {
        line = c.in-Ok-Some.line;
        gives = came.0.2;
        said = came.1;
        phase = c.in-Ok.ensures.value ∙ ap (λ (n : ℕ). phase_of n c.in-Ok-Some.line) c.in-Ok-Some.ensures.frame.1;
      },
    )

pub returns-in-Ok-Some-clause-stop : goal.returns-in-Ok-Some-clause-stop
returns-in-Ok-Some-clause-stop g c = λ used is.
    let at = lines_behind g.S.Source.left g.S.Source.faults g.S.ClockedSource.time g.E.Sink.held g.E.Sink.pieces g.E.Sink.faults in
    let lines = c.args.self.now.lines in
    let new = c.next_line.new.self.lines in
    let came = rw c.in-Ok-Some.field-0-is at (c.in-Ok-Some.ensures.ok used is) in
    lose lines.bearers lines.elements g.S.ClockedSource.clocked c.in-Ok-Some.line (at used lines) (at came.0.0 new) new.held came.0.2

pub returns-in-Ok-None-clause-ok : goal.returns-in-Ok-None-clause-ok
returns-in-Ok-None-clause-ok g c = λ used is. rw c.in-Ok-None.field-0-is at (c.in-Ok-None.ensures.ok used is)
