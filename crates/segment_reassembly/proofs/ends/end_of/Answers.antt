use Rattle.std.proofs.Common.{◌≡◌, ◌↔◌, ◌-◌, Some, arith, false}
use Rattle.std.specs.Prelude.{not, nat_lt}
use Rattle.std.proofs.lemmas.Bool.Decides.{nat_tests}
use Rattle.segment_reassembly.specs.Ends.{is_timer_over}
use Rattle.timer_ends.proofs.Firsts.{none_of}
use Rattle.timer_ends.specs.Ends.{IsBefore}
use Rattle.segment_reassembly.proofs.ends.end_of.Goals as goal

pub returns : goal.returns
returns c = λ now time.
    let a = c.args.a.now in
    let young : (not (nat_lt (now - a.renewed) 1000) ≡ false) ↔ IsBefore now (Some c.end_after.result) =
    let end = c.end_after.ensures.end now time in (λ h. end.0 (grind (arith, nat_tests, h)), λ h. let l = end.1 h in grind (arith, nat_tests, l)) in
    none_of (not (nat_lt (now - a.renewed) 1000)) (is_timer_over now a.timer) young (c.timer_end.ensures now) (c.sooner.ensures.before now)
