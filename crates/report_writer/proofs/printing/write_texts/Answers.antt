use Rattle.std.proofs.Common.{◌∙◌, refl}
use Rattle.report_writer.specs.Writing.{view_of}
use Rattle.report_writer.proofs.Cutting.{cut_left, next_fits, next_pieces, no_pieces}
use Rattle.report_writer.proofs.Written.{left_all, texts_cut, texts_more, texts_whole}
use Rattle.report_writer.proofs.printing.write_texts.Goals as goal

pub loop-length-init : goal.loop-length-init
loop-length-init g c = record {
  cut = c.parts.ensures.cut;
  lines = λ lines same. left_all lines _ (view_of g.K.Sink.held g.K.Sink.pieces c.args.sink.now) (c.parts.ensures.value ∙ same);
  no_fault = refl;
}

pub split_at-requires : goal.split_at-requires
split_at-requires g c =
    next_fits c.parts.result.1.now c.loop-length.rest.now c.loop-length.length-index c.loop-length-test.true c.loop-length.invariant.cut

pub loop-length-preserved : goal.loop-length-preserved
loop-length-preserved g c =
    let view = view_of g.K.Sink.held g.K.Sink.pieces in
    let lengths = c.parts.result.1.now in
    let rest = c.loop-length.rest.now in
    let i = c.loop-length.length-index in
    record {
      cut = rw c.split_at.ensures.back (cut_left lengths rest i c.loop-length-test.true c.loop-length.invariant.cut);
      lines = λ lines same.
          rw c.split_at.ensures.back (texts_more lines _ _ _ (view c.args.sink.now) (view c.loop-length.sink) (view c.write_text.new.sink)
          (next_pieces lengths rest i c.loop-length-test.true) (c.loop-length.invariant.lines lines same) (rw c.split_at.ensures.front at c.in-Ok.ensures.ok));
      no_fault = c.in-Ok.ensures.no_fault ∙ c.loop-length.invariant.no_fault;
    }

pub returns-in-Err-clause-err : goal.returns-in-Err-clause-err
returns-in-Err-clause-err g c = λ lines same.
    let view = view_of g.K.Sink.held g.K.Sink.pieces in
    texts_cut lines _ _ _ (view c.args.sink.now) (view c.loop-length.sink) (view c.write_text.new.sink)
    (next_pieces c.parts.result.1.now c.loop-length.rest.now c.loop-length.length-index c.loop-length-test.true)
    (c.loop-length.invariant.lines lines same) (rw c.split_at.ensures.front at c.in-Err.ensures.err)

pub returns-clause-ok : goal.returns-clause-ok
returns-clause-ok g c = λ lines same.
    let view = view_of g.K.Sink.held g.K.Sink.pieces in
    texts_whole lines _ (view c.args.sink.now) (view c.loop-length.sink) (no_pieces c.parts.result.1.now c.loop-length.rest.now c.loop-length.length-index c.loop-length-test.false)
    (c.loop-length.invariant.lines lines same)
