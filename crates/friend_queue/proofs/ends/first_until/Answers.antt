use Rattle.std.proofs.Common.{◌≡◌, ◌↔◌, Some, arith, false, subst}
use Rattle.friend_queue.specs.Ends.{is_over}
use Rattle.std.proofs.lemmas.Bool.Decides.{nat_tests}
use Rattle.layer_states.specs.declared.friends.Friendship.{Friendship}
use Rattle.timer_ends.proofs.Firsts.{none_more}
use Rattle.timer_ends.specs.Ends.{IsBefore}
use Rattle.friend_queue.proofs.ends.first_until.Goals as goal

pub loop-s-preserved : goal.loop-s-preserved
loop-s-preserved c = λ now.
    let s = c.s-item.result in
    let Ends : Friendship → Type 0 = λ b. (is_over now b ≡ false) ↔ IsBefore now (Some s.until) in
    let here : Ends s = (λ h. grind (arith, nat_tests, h), λ h. grind (arith, nat_tests, h)) in
    none_more (is_over now) c.args.slots.now c.loop-s.s-index s c.loop-s-test.true
    (c.loop-s.invariant now) (subst Ends c.s-item.is here) (c.sooner-first.ensures.before now)
