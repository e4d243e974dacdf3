use Rattle.std.proofs.Common.{◌≡◌, length}
use Rattle.report_writer.specs.Writing.{view_of}
use Rattle.report_writer.proofs.Handing.{HandsUpTo}
use Rattle.report_writer.proofs.printing.write_text.Given as goal

abbrev pub invariant-loop-rest : goal.invariant-loop-rest
invariant-loop-rest g l = record {
  handed : HandsUpTo l.text l.rest (view_of g.K.Sink.held g.K.Sink.pieces l.fn.sink) (view_of g.K.Sink.held g.K.Sink.pieces l.sink);
  no_fault : g.K.Sink.faults l.sink ≡ g.K.Sink.faults l.fn.sink;
}

abbrev pub decreases-loop-rest : goal.decreases-loop-rest
decreases-loop-rest g l = length l.rest
