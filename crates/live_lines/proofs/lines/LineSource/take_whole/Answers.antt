use Rattle.std.proofs.Common.{◌≡◌, [], ◌∙◌}
use Rattle.report_writer.specs.Writing.{view_of}
use Rattle.live_lines.specs.Moves.Move.{passes}
use Rattle.std.proofs.lemmas.List.Elements.{All-nil}
use Rattle.live_lines.specs.States.{lines_behind}
use Rattle.live_lines.specs.Turns.{IsFrontOf}
use Rattle.live_lines.proofs.Turning.{gives, loses, passes_over}
use Rattle.live_lines.proofs.lines.LineSource.take_whole.Goals as goal

pub returns-in-Ok-Some-clause-ok : goal.returns-in-Ok-Some-clause-ok
returns-in-Ok-Some-clause-ok g c = λ raw is.
    let self = c.args.self.now in
    let next = c.take-taken.new.self in
    let view = view_of g.E.Sink.held g.E.Sink.pieces in
    let at = lines_behind g.S.Source.left g.S.Source.faults g.S.ClockedSource.time g.E.Sink.held g.E.Sink.pieces g.E.Sink.faults in
    let front : IsFrontOf c.as_slice.result.now raw = (is.0, c.as_slice.ensures.value ∙ is.1) in
    let taken = rw c.in-Ok-Some.field-0-is at c.in-Ok-Some.ensures.ok in (
      rw c.in-Ok-Some.ensures.frame (gives self.bearers self.elements self.number (g.S.Source.left self.source) self.held raw c.as_slice.result.now (g.S.Source.faults self.source)
          (g.E.Sink.faults self.errors) (g.S.ClockedSource.time self.source) (view self.errors) front c.in-Ok-Some.line (view next.errors) (g.E.Sink.faults next.errors)
          c.in-Ok-Some.ensures.no_fault taken),
      rw c.in-Ok-Some.field-0-is at c.in-Ok-Some.ensures.ranges,
      c.new.ensures.value,
    )

pub returns-in-Ok-None-clause-ok : goal.returns-in-Ok-None-clause-ok
returns-in-Ok-None-clause-ok g c = λ raw is.
    let self = c.args.self.now in
    let next = c.take-taken.new.self in
    let view = view_of g.E.Sink.held g.E.Sink.pieces in
    let front : IsFrontOf c.as_slice.result.now raw = (is.0, c.as_slice.ensures.value ∙ is.1) in
    let taken = rw c.in-Ok-None.field-0-is at c.in-Ok-None.ensures.ok in (
      [],
      (All-nil (λ b. b ≡ 10 → ⊥), c.new.ensures.value),
      (
        passes raw,
        rw c.in-Ok-None.ensures.frame (passes_over self.bearers self.elements self.number (g.S.Source.left self.source) self.held raw c.as_slice.result.now (g.S.Source.faults self.source)
            (g.E.Sink.faults self.errors) (g.S.ClockedSource.time self.source) (view self.errors) front (view next.errors) (g.E.Sink.faults next.errors) c.in-Ok-None.ensures.no_fault taken),
      ),
    )

pub returns-in-Err-clause-stop : goal.returns-in-Err-clause-stop
returns-in-Err-clause-stop g c = λ raw n is.
    let self = c.args.self.now in
    let next = c.take-taken.new.self in
    let view = view_of g.E.Sink.held g.E.Sink.pieces in
    let front : IsFrontOf c.as_slice.result.now raw = (is.0, c.as_slice.ensures.value ∙ is.1) in
    rw c.in-Err.ensures.frame (loses self.bearers self.elements self.number (g.S.Source.left self.source) self.held raw c.as_slice.result.now (g.S.Source.faults self.source)
    (g.E.Sink.faults self.errors) (g.S.ClockedSource.time self.source) (view self.errors) front c.in-Err.why n (view next.errors) (g.E.Sink.faults next.errors) c.in-Err.ensures.stop)
