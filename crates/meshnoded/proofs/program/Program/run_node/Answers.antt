use Rattle.std.proofs.Common.{None, refl}
use Rattle.std.proofs.lemmas.Result.{on_ok_weaker}
use Rattle.live_node.specs.Lived.{StreamsAt, streams_at}
use Rattle.report_writer.specs.Writing.{view_of}
use Rattle.meshnoded.proofs.Causes.{clockless}
use Rattle.meshnoded.proofs.Doing.{not_over_a_thread, not_over_these, over_a_thread, over_these}
use Rattle.meshnoded.proofs.program.Program.run_node.Goals as goal

pub returns-then-not-ways-clause-done : goal.returns-then-not-ways-clause-done
returns-then-not-ways-clause-done g c =
    let at = streams_at g.S.Source.left g.S.Source.faults g.S.ClockedSource.time g.E.Sink.held g.E.Sink.pieces g.E.Sink.faults in
    rw c.answered_by.ensures.value
    (on_ok_weaker c.run.result.answer (over_these _ g.S.ClockedSource.clocked (at c.args.self.streams) (at c.run.result.streams) c.args.ways.clock c.if-not-ways.true) c.run.ensures.done)

pub returns-clause-done : goal.returns-clause-done
returns-clause-done g c =
    let at = streams_at g.S.Source.left g.S.Source.faults g.S.ClockedSource.time g.E.Sink.held g.E.Sink.pieces g.E.Sink.faults in
    let told = view_of g.E.Sink.held g.E.Sink.pieces in
    let old = c.args.self.streams in
    let new = c.run-2.result.streams in
    let from : StreamsAt = record { left = None; told = told old.errors; source_faults = c.in-Ok.source.faults; sink_faults = g.E.Sink.faults old.errors; time = c.in-Ok.source.told } in
    let to : StreamsAt = record { left = None; told = told new.errors; source_faults = new.source.faults; sink_faults = g.E.Sink.faults new.errors; time = new.source.told } in
    rw c.answered_beside.ensures.value
    (on_ok_weaker c.run-2.result.answer (over_a_thread _ g.S.ClockedSource.clocked (at old) from to c.args.ways.clock c.if-not-ways.false refl refl) c.run-2.ensures.done)

pub returns-then-not-ways-clause-failed : goal.returns-then-not-ways-clause-failed
returns-then-not-ways-clause-failed g c =
    let at = streams_at g.S.Source.left g.S.Source.faults g.S.ClockedSource.time g.E.Sink.held g.E.Sink.pieces g.E.Sink.faults in
    rw c.answered_by.ensures.value
    (not_over_these _ _ g.S.ClockedSource.clocked (at c.args.self.streams) (at c.run.result.streams) c.args.ways.clock c.if-not-ways.true c.run.result.answer c.run.ensures.failed)

pub returns-clause-failed : goal.returns-clause-failed
returns-clause-failed g c =
    let at = streams_at g.S.Source.left g.S.Source.faults g.S.ClockedSource.time g.E.Sink.held g.E.Sink.pieces g.E.Sink.faults in
    let told = view_of g.E.Sink.held g.E.Sink.pieces in
    let old = c.args.self.streams in
    let new = c.run-2.result.streams in
    let from : StreamsAt = record { left = None; told = told old.errors; source_faults = c.in-Ok.source.faults; sink_faults = g.E.Sink.faults old.errors; time = c.in-Ok.source.told } in
    let to : StreamsAt = record { left = None; told = told new.errors; source_faults = new.source.faults; sink_faults = g.E.Sink.faults new.errors; time = new.source.told } in
    rw c.answered_beside.ensures.value
    (not_over_a_thread _ _ g.S.ClockedSource.clocked (at old) from to c.args.ways.clock c.if-not-ways.false refl refl c.run-2.result.answer c.run-2.ensures.failed)

pub returns-in-Err-clause-errors_cause : goal.returns-in-Err-clause-errors_cause
returns-in-Err-clause-errors_cause g c = (clockless _ 0 c.not_begun.result c.not_begun.ensures.cause).0

pub returns-in-Err-clause-sink_cause : goal.returns-in-Err-clause-sink_cause
returns-in-Err-clause-sink_cause g c = (clockless 0 _ c.not_begun.result c.not_begun.ensures.cause).1
