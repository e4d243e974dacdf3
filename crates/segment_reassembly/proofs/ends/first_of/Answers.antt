use Rattle.std.proofs.Common.{◌≡◌, ◌↔◌, false, subst}
use Rattle.segment_reassembly.specs.Ends.{is_ending}
use Rattle.layer_states.specs.declared.reassembly.Assembly.{Assembly}
use Rattle.timer_ends.proofs.Firsts.{none_more}
use Rattle.timer_ends.specs.Ends.{IsBefore}
use Rattle.segment_reassembly.proofs.ends.first_of.Goals as goal

pub loop-a-preserved : goal.loop-a-preserved
loop-a-preserved c = λ now time.
    let a = c.a-item.result in
    let Ends : Assembly → Type 0 = λ b. (is_ending now b ≡ false) ↔ IsBefore now c.end_of.result in
    none_more (is_ending now) c.args.rows.now c.loop-a.a-index a c.loop-a-test.true
    (c.loop-a.invariant now time) (subst Ends c.a-item.is (c.end_of.ensures now time)) (c.sooner-first.ensures.before now)
