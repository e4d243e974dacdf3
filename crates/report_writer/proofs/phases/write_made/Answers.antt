use Rattle.report_writer.specs.Writing.{view_of}
use Rattle.report_writer.proofs.Written.{front_none}
use Rattle.report_writer.proofs.phases.write_made.Goals as goal

pub returns-in-Err-clause-err : goal.returns-in-Err-clause-err
returns-in-Err-clause-err g c lines made =
    front_none lines (view_of g.K.Sink.held g.K.Sink.pieces c.args.sink.now)
