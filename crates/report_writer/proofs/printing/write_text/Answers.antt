use Rattle.std.proofs.Common.{◌∙◌}
use Rattle.report_writer.specs.Writing.{view_of}
use Rattle.report_writer.proofs.Handing.{hands_step, hands_stop, hands_whole}
use Rattle.report_writer.proofs.printing.write_text.Goals as goal

pub loop-rest-preserved : goal.loop-rest-preserved
loop-rest-preserved g c =
    let view = view_of g.K.Sink.held g.K.Sink.pieces in
    record {
      handed = rw c.split_at.ensures.back (hands_step c.args.text.now c.loop-rest.rest.now c.in-Ok.count (view c.args.sink.now) (view c.loop-rest.sink) (view c.write.new.self)
          (c.in-Ok.ensures.some c.loop-rest-test.true) c.in-Ok.ensures.bound c.loop-rest.invariant.handed c.in-Ok.ensures.octets c.in-Ok.ensures.offered);
      no_fault = c.in-Ok.ensures.no_fault ∙ c.loop-rest.invariant.no_fault;
    }

pub returns-in-Err-clause-err : goal.returns-in-Err-clause-err
returns-in-Err-clause-err g c =
    let view = view_of g.K.Sink.held g.K.Sink.pieces in
    hands_stop c.args.text.now c.loop-rest.rest.now (view c.args.sink.now) (view c.loop-rest.sink) (view c.write.new.self)
    c.loop-rest-test.true c.loop-rest.invariant.handed c.in-Err.ensures.unchanged c.in-Err.ensures.offered

pub returns-clause-ok : goal.returns-clause-ok
returns-clause-ok g c =
    let view = view_of g.K.Sink.held g.K.Sink.pieces in
    hands_whole c.args.text.now c.loop-rest.rest.now (view c.args.sink.now) (view c.loop-rest.sink) c.loop-rest-test.false c.loop-rest.invariant.handed
