use Rattle.std.proofs.Common.{◌≡◌, ◌↔◌, ◌∙◌, ℕ, ◌-◌, ◌<◌, ◌≤◌, true, false, ap, sym, subst, arith}
use Rattle.std.proofs.lemmas.Bool.Decides.{nat_tests}
use Rattle.model_states.specs.Timing.{is_delayed, is_over}
use Rattle.onoff_level_models.proofs.Ahead.{as_delayed, as_going, as_over}
use Rattle.timer_ends.proofs.Firsts.{through}
use Rattle.onoff_level_models.proofs.ends.change_end.Goals as goal

goes_on : (taken from later : ℕ) → from ≤ later → from - taken ≤ later - taken
goes_on taken from later h = omega (arith, h)

pub returns-then-is_delayed : goal.returns-then-is_delayed
returns-then-is_delayed c = λ later from time.
    let t = c.args.t.now in
    let elapsed = c.args.now - c.args.taken in
    let yes : is_delayed t elapsed ≡ true =
    ap (λ n. is_delayed t n) (sym c.elapsed-elapsed.ensures) ∙ sym c.is_delayed.ensures ∙ c.if-is_delayed.true in
    through
    (as_delayed t elapsed (later - c.args.taken) (goes_on c.args.taken c.args.now later from) (grind (arith, nat_tests, yes)))
    (subst (λ n. later - c.args.taken < n ↔ later < c.end_after.result) c.from.ensures (c.end_after.ensures.end later time))

pub returns-then-is_over : goal.returns-then-is_over
returns-then-is_over c = λ later from time.
    let t = c.args.t.now in
    let elapsed = c.args.now - c.args.taken in
    let yes : is_over t elapsed ≡ true =
    ap (λ n. is_over t n) (sym c.elapsed-elapsed.ensures) ∙ sym c.is_over.ensures ∙ c.if-is_over.true in
    (λ h. tt, λ h. as_over t elapsed (later - c.args.taken) (goes_on c.args.taken c.args.now later from) (grind (arith, nat_tests, yes)))

pub returns : goal.returns
returns c = λ later from time.
    let t = c.args.t.now in
    let elapsed = c.args.now - c.args.taken in
    let waits : is_delayed t elapsed ≡ false =
    ap (λ n. is_delayed t n) (sym c.elapsed-elapsed.ensures) ∙ sym c.is_delayed.ensures ∙ c.if-is_delayed.false in
    let goes : is_over t elapsed ≡ false =
    ap (λ n. is_over t n) (sym c.elapsed-elapsed.ensures) ∙ sym c.is_over.ensures ∙ c.if-is_over.false in
    through
    (as_going t elapsed (later - c.args.taken) (goes_on c.args.taken c.args.now later from) (grind (arith, nat_tests, waits)) (grind (arith, nat_tests, goes)))
    (subst (λ n. later - c.args.taken < n ↔ later < c.end_after-2.result) c.whole.ensures (c.end_after-2.ensures.end later time))
