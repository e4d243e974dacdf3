use Rattle.std.proofs.Common.{◌≡◌, ◌↔◌, Some, arith, false, subst}
use Rattle.std.proofs.lemmas.Bool.Decides.{nat_tests}
use Rattle.layer_states.specs.Sending.{is_due}
use Rattle.layer_states.specs.declared.sending.Sending.{Sending}
use Rattle.timer_ends.proofs.Firsts.{none_more}
use Rattle.timer_ends.specs.Ends.{IsBefore}
use Rattle.segment_sender.proofs.ends.first_round.Goals as goal

pub loop-s-preserved : goal.loop-s-preserved
loop-s-preserved c = λ now.
    let s = c.s-item.result in
    let Ends : Sending → Type 0 = λ b. (is_due now b ≡ false) ↔ IsBefore now (Some s.due) in
    let here : Ends s = (λ h. grind (arith, nat_tests, h), λ h. grind (arith, nat_tests, h)) in
    none_more (is_due now) c.args.rows.now c.loop-s.s-index s c.loop-s-test.true
    (c.loop-s.invariant now) (subst Ends c.s-item.is here) (c.sooner-first.ensures.before now)
