use Rattle.std.proofs.Common.{◌≡◌, List, drop, map}
use Rattle.mesh_types.specs.declared.report.ReportLine.{ReportLine}
use Rattle.report_definitions.specs.Report.{line_text}
use Rattle.report_writer.specs.Texts.{IsCut, pieces}
use Rattle.report_writer.specs.Writing.{view_of}
use Rattle.report_writer.proofs.Written.{LeftOf}
use Rattle.report_writer.proofs.printing.write_texts.Given as goal

abbrev pub invariant-loop-length : goal.invariant-loop-length
invariant-loop-length g l = record {
  cut : IsCut (drop l.length-index l.lengths) l.rest;
  lines : (lines : List ReportLine) → l.texts ≡ map line_text lines
      → LeftOf lines (pieces (drop l.length-index l.lengths) l.rest) (view_of g.K.Sink.held g.K.Sink.pieces l.fn.sink) (view_of g.K.Sink.held g.K.Sink.pieces l.sink);
  no_fault : g.K.Sink.faults l.sink ≡ g.K.Sink.faults l.fn.sink;
}
