use Rattle.std.proofs.Common.{◌∙◌, arith}
use Rattle.std.specs.Prelude.{slice_index_or}
use Rattle.std.proofs.lemmas.List.{length-set}
use Rattle.node_bearer.proofs.Lists.{set_each}
use Rattle.node_bearer.proofs.acting.read_each.Goals as goal

pub loop-i-preserved : goal.loop-i-preserved
loop-i-preserved g c =
    let l = c.loop-i in
    let events = c.args.events.now in
    record {
      long = length-set l.readings l.i c.read.new.reading ∙ l.invariant.long;
      fits = set_each (g.M.Machine.fits c.read.new.reader) l.readings events l.i c.read.new.reading c.index-events-i.result (omega (arith, l.invariant.long, c.requires, c.loop-i-test.true)) c.loop-i-test.true
          (λ j r e before. c.read.ensures.kept (slice_index_or l.readings j r) (slice_index_or events j e) (l.invariant.fits j r e before)) c.index-events-i.is c.read.ensures.fits;
    }
