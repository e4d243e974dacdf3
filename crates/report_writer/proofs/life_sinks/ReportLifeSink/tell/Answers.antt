use Rattle.std.proofs.Common.{subst}
use Rattle.std.proofs.lemmas.Result.{on_ok_weaker}
use Rattle.report_definitions.specs.Report.{life_lines}
use Rattle.report_writer.specs.Lives.{life_of}
use Rattle.report_writer.specs.Writing.{Written, view_of}
use Rattle.report_writer.proofs.Reporting.{reports_more}
use Rattle.report_writer.proofs.life_sinks.ReportLifeSink.tell.Goals as goal

pub returns-clause-ok : goal.returns-clause-ok
returns-clause-ok g c = λ first lives over before told is.
    let view = view_of g.K.Sink.held g.K.Sink.pieces in
    let life = life_of c.args.life.now in
    on_ok_weaker c.write_life.result (λ w. (
      told.0,
      reports_more first.hex c.args.number lives (record { over = over; life = life }) before (view c.args.sink.now) (view c.write_life.new.sink) is told.1
          (subst (λ r. Written (life_lines r.hex c.args.number life) (view c.args.sink.now) (view c.write_life.new.sink)) told.0 w),
    )) c.write_life.ensures.ok
