use Rattle.std.proofs.Common.{Err, ap, inl, inr, refl}
use Rattle.machine_contract.specs.Opening.{found_of}
use Rattle.mesh_node.specs.Given.{Stood}
use Rattle.report_writer.specs.Writing.{view_of}
use Rattle.live_node.specs.Lived.{streams_at}
use Rattle.live_node.proofs.Opening.{never_reset, opening_front, started_untouched, unopened_over}
use Rattle.live_node.proofs.running.run_started.Goals as goal

pub returns-in-Err-clause-ended : goal.returns-in-Err-clause-ended
returns-in-Err-clause-ended g c =
    let chip = g.F.Flash.chip in
    let s = c.requires.started in
    let b = c.args.beginning in
    let from = streams_at g.S.Source.left g.S.Source.faults g.S.ClockedSource.time g.E.Sink.held g.E.Sink.pieces g.E.Sink.faults c.args.streams in
    let before = view_of g.K.Sink.held g.K.Sink.pieces c.args.streams.sink in
    let after = view_of g.K.Sink.held g.K.Sink.pieces c.write_opening.new.sink in
    let life = c.tells.ensures.known (found_of (chip b.start)) b.flash s.over b.started.machine s.tie in
    rw (c.unopened-in-Err.ensures.value, c.stop_status.ensures.value)
    (unopened_over g.M.Machine.role g.M.Machine.image c.args.hex b.bearers g.S.ClockedSource.clocked (chip b.start) (chip b.flash) from from before after
    (Stood g.M.Machine.view (g.M.Machine.stands (found_of (chip b.start))) chip b.flash) (record {
      wrote = inr (opening_front (chip b.start) before after s.over b.started.state b.started.mark s.read s.runs s.state s.mark c.in-Err.ensures.err);
      unread = refl;
      kept = c.requires.kept;
      no_fault = s.no_fault;
      untouched = inr (started_untouched g.M.Machine.view g.M.Machine.stands g.M.Machine.role g.M.Machine.image (chip b.start) (chip b.flash) b.started s life);
      writes = c.requires.writes;
      reset = never_reset (chip b.start) c.one_list_is_recovered.ensures.one_list s.over s.read s.runs;
    }) c.in-Err.stop (λ why. ap (view_of g.K.Sink.held g.K.Sink.pieces) (c.in-Err.ensures.memory (ap Err why))))

pub returns-in_default-clause-ended : goal.returns-in_default-clause-ended
returns-in_default-clause-ended g c =
    let chip = g.F.Flash.chip in
    let s = c.requires.started in
    let b = c.args.beginning in
    let life = c.tells.ensures.known (found_of (chip b.start)) b.flash s.over b.started.machine s.tie in
    rw c.unopened.ensures.value
    (inl (
      refl,
      record {
        wrote = inl refl;
        unread = refl;
        kept = c.requires.kept;
        no_fault = s.no_fault;
        untouched = inr (started_untouched g.M.Machine.view g.M.Machine.stands g.M.Machine.role g.M.Machine.image (chip b.start) (chip b.flash) b.started s life);
        writes = c.requires.writes;
        reset = never_reset (chip b.start) c.one_list_is_recovered.ensures.one_list s.over s.read s.runs;
      },
      refl,
    ))
