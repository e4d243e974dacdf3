use Rattle.std.proofs.Common.{◌≡◌, ℕ, ◌≤◌, List, [], ◌∷◌, length, refl, ◌∙◌, arith}
use Rattle.report_writer.specs.Writing.{view_of}
use Rattle.live_lines.specs.Moves.Move.{reads}
use Rattle.live_lines.specs.Turns.{IsFrontOf}
use Rattle.live_lines.proofs.Turning.{fails_at_end, reads_on}
use Rattle.live_lines.proofs.lines.LineSource.read_on.Goals as goal

empty : (octets : List ℕ) → length octets ≤ 0 → octets ≡ []
empty [] h = refl
empty (x ∷ octets) h = absurd (omega arith)

pub returns-in-Err-tell_rest-clause-turns : goal.returns-in-Err-tell_rest-clause-turns
returns-in-Err-tell_rest-clause-turns g c = record {
  ok = λ used is. tt;
  stop = λ used n is.
      let self = c.args.self.now in
      let next = c.tell_rest.new.self in
      let view = view_of g.E.Sink.held g.E.Sink.pieces in
      let front : IsFrontOf c.as_slice.result.now used = (is.0, c.as_slice.ensures.value ∙ is.1) in
      let zero : c.in-Ok-eq0.field-0 ≡ 0 = omega (arith, c.in-Ok-eq0.field-0-test) in
      let none : c.fill.new.self ≡ [] = empty c.fill.new.self (omega (arith, c.in-Ok-eq0.ensures.count)) in
      rw (c.in-Err-tell_rest.ensures.frame, none, c.requires.none, c.in-Ok-eq0.ensures.untimed)
      (fails_at_end self.bearers self.elements self.number (g.S.Source.left self.source) used c.as_slice.result.now (g.S.Source.faults self.source) (g.E.Sink.faults self.errors) (g.S.ClockedSource.time self.source)
      (view self.errors) front c.in-Err-tell_rest.why n (g.S.Source.left c.fill.new.source) (view next.errors) (g.S.Source.faults c.fill.new.source) (g.E.Sink.faults next.errors)
      (rw none at c.in-Ok-eq0.ensures.octets) (c.in-Ok-eq0.ensures.at_end zero) c.in-Ok-eq0.ensures.no_fault c.in-Err-tell_rest.ensures.some c.in-Err-tell_rest.ensures.stop);
}

pub returns-in-Ok-clause-turns : goal.returns-in-Ok-clause-turns
returns-in-Ok-clause-turns g c = record {
  ok = λ used is.
      let self = c.args.self.now in
      let view = view_of g.E.Sink.held g.E.Sink.pieces in (
        used,
        is,
        (
          reads c.fill.new.self,
          rw (c.requires.none, c.in-Ok.ensures.untimed)
              (reads_on self.bearers self.elements self.number (g.S.Source.left self.source) used c.args.front.now (g.S.Source.faults self.source) (g.E.Sink.faults self.errors) (g.S.ClockedSource.time self.source)
              (view self.errors) is (g.S.Source.left c.fill.new.source) c.fill.new.self (g.S.Source.faults c.fill.new.source)
              (omega (arith, c.in-Ok.ensures.count, c.in-Ok.field-0-test.1)) c.in-Ok.ensures.octets c.in-Ok.ensures.no_fault),
        ),
      );
  stop = λ used n is. tt;
}
