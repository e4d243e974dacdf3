use Rattle.std.proofs.Common.{◌++◌}
use Rattle.live_lines.proofs.Turning.{front_behind, held_cut, held_none}
use Rattle.live_lines.proofs.lines.LineSource.turn.Goals as goal

pub returns-then-take_line-clause-turns : goal.returns-then-take_line-clause-turns
returns-then-take_line-clause-turns g c =
    let w = c.take_line.ensures.whole c.if-take_line.true in
    record {
      ok = λ used is.
          rw (← held_cut used w.0 c.args.self.now.held c.take_line.new.self w.2)
          (c.take_whole.ensures.ok (used ++ w.0) (front_behind c.args.front.now c.take_line.new.front used w.0 is w.1 w.3));
      stop = λ used n is.
          rw (← held_cut used w.0 c.args.self.now.held c.take_line.new.self w.2)
          (c.take_whole.ensures.stop (used ++ w.0) n (front_behind c.args.front.now c.take_line.new.front used w.0 is w.1 w.3));
    }

pub returns-else-take_line-clause-turns : goal.returns-else-take_line-clause-turns
returns-else-take_line-clause-turns g c =
    let w = c.take_line.ensures.part c.if-take_line.false in
    record {
      ok = λ used is.
          rw (← held_none used c.args.self.now.held c.take_line.new.self w.1)
          (c.read_on.ensures.turns.ok (used ++ c.args.self.now.held)
          (front_behind c.args.front.now c.take_line.new.front used c.args.self.now.held is w.0 w.2));
      stop = λ used n is.
          rw (← held_none used c.args.self.now.held c.take_line.new.self w.1)
          (c.read_on.ensures.turns.stop (used ++ c.args.self.now.held) n
          (front_behind c.args.front.now c.take_line.new.front used c.args.self.now.held is w.0 w.2));
    }
