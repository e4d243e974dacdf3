use Rattle.std.proofs.Common.{◌∙◌, [], refl}
use Rattle.live_lines.specs.States.{lines_behind}
use Rattle.live_lines.specs.declared.line_phases.Round.TheVariants as R
use Rattle.live_lines.proofs.Moving.{moved_more}
use Rattle.live_lines.proofs.Rounds.{came, ended, round_of}
use Rattle.live_lines.proofs.line_phases.LinePhases.next_line.Goals as goal

pub loop-move-init : goal.loop-move-init
loop-move-init g c = record {
  same = (refl, refl, refl);
  moved = λ used is. record { used = used; is = is; moves = []; many = refl; did = refl };
}

pub loop-move-preserved : goal.loop-move-preserved
loop-move-preserved g c =
    let at = lines_behind g.S.Source.left g.S.Source.faults g.S.ClockedSource.time g.E.Sink.held g.E.Sink.pieces g.E.Sink.faults in
    let clocked = g.S.ClockedSource.clocked in
    let first = c.args.self.now.lines in
    let mid = c.loop-move.self.lines in
    let new = c.round.new.self.lines in
    let same = c.loop-move.invariant.same in
    record {
      same = (c.in-Ok-Moved.ensures.frame.0 ∙ same.0, c.in-Ok-Moved.ensures.frame.1 ∙ same.1, c.in-Ok-Moved.ensures.frame.2 ∙ same.2);
      moved = λ used is.
          let h = c.loop-move.invariant.moved used is in
          moved_more first.bearers first.elements c.loop-move._move c.loop-move.self.front c.round.new.self.front (at used first)
          (λ now. at now mid) (λ now. at now new) h
          (round_of first.bearers first.elements clocked mid.bearers mid.elements R.Moved c.round.new.self.front (at h.used mid) (at h.used mid) (λ now. at now new)
          same.1 same.2 refl (rw c.in-Ok-Moved.field-0-is at (c.in-Ok-Moved.ensures.rounds.ok h.used h.is)));
    }

pub returns-in-Ok-Comes-clause-ok : goal.returns-in-Ok-Comes-clause-ok
returns-in-Ok-Comes-clause-ok g c = λ used is.
    let at = lines_behind g.S.Source.left g.S.Source.faults g.S.ClockedSource.time g.E.Sink.held g.E.Sink.pieces g.E.Sink.faults in
    let clocked = g.S.ClockedSource.clocked in
    let first = c.args.self.now.lines in
    let mid = c.loop-move.self.lines in
    let new = c.round.new.self.lines in
    let same = c.loop-move.invariant.same in
    let h = c.loop-move.invariant.moved used is in
    came first.bearers first.elements clocked c.loop-move._move c.loop-move.self.front c.round.new.self.front (at used first)
    (λ now. at now mid) (λ now. at now new) h c.in-Ok-Comes.line
    (round_of first.bearers first.elements clocked mid.bearers mid.elements (R.Comes c.in-Ok-Comes.line) c.round.new.self.front (at h.used mid) (at h.used mid) (λ now. at now new)
    same.1 same.2 refl (rw c.in-Ok-Comes.field-0-is at (c.in-Ok-Comes.ensures.rounds.ok h.used h.is)))

pub returns-in-Ok-Ended-clause-ok : goal.returns-in-Ok-Ended-clause-ok
returns-in-Ok-Ended-clause-ok g c = λ used is.
    let at = lines_behind g.S.Source.left g.S.Source.faults g.S.ClockedSource.time g.E.Sink.held g.E.Sink.pieces g.E.Sink.faults in
    let clocked = g.S.ClockedSource.clocked in
    let first = c.args.self.now.lines in
    let mid = c.loop-move.self.lines in
    let new = c.round.new.self.lines in
    let same = c.loop-move.invariant.same in
    let h = c.loop-move.invariant.moved used is in
    ended first.bearers first.elements clocked c.loop-move._move c.loop-move.self.front c.round.new.self.front (at used first)
    (λ now. at now mid) (λ now. at now new) h
    (round_of first.bearers first.elements clocked mid.bearers mid.elements R.Ended c.round.new.self.front (at h.used mid) (at h.used mid) (λ now. at now new)
    same.1 same.2 refl (rw c.in-Ok-Ended.field-0-is at (c.in-Ok-Ended.ensures.rounds.ok h.used h.is)))
