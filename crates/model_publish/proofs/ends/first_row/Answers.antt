use Rattle.model_states.specs.Publication.{is_row_due}
use Rattle.timer_ends.proofs.Firsts.{none_more}
use Rattle.model_publish.proofs.ends.first_row.Goals as goal

pub loop-p-preserved : goal.loop-p-preserved
loop-p-preserved c = λ now time.
    none_more (is_row_due c.args.asked now) c.args.rows.now c.loop-p.p-index _ c.loop-p-test.true
    (c.loop-p.invariant now time) (c.row_end.ensures now time) (c.sooner-first.ensures.before now)
