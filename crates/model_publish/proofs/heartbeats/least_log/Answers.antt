-- Each log that isn't enough is passed.
use Rattle.std.proofs.Common.{◌≡◌, suc, ◌+◌, ◌-◌, ◌*◌, ◌^◌, ◌<◌, ◌≤◌, ap, sym, ◌∙◌, arith}
use Rattle.model_publish.proofs.Logs.{log_found, log_passed, log_last, twice}
use Rattle.model_publish.proofs.heartbeats.least_log.Goals as goal

pub returns-then-from-reach : goal.returns-then-from-reach
returns-then-from-reach c =
    let fuel : 17 - c.loop-log.log ≡ suc (16 - c.loop-log.log) = omega (arith, c.loop-log-test.true) in
    let enough : c.args.n ≤ 2 ^ (c.loop-log.log - 1) = omega (arith, c.loop-log.invariant.1, c.if-from-reach.true, c.from.ensures) in
    sym (c.loop-log.invariant.0 ∙ rw fuel (log_found (16 - c.loop-log.log) c.loop-log.log c.args.n enough))

pub loop-log-preserved : goal.loop-log-preserved
loop-log-preserved c =
    let fuel : 17 - c.loop-log.log ≡ suc (16 - c.loop-log.log) = omega (arith, c.loop-log-test.true) in
    let next : 17 - (c.loop-log.log + 1) ≡ 16 - c.loop-log.log = omega arith in
    let few : 2 ^ (c.loop-log.log - 1) < c.args.n = omega (arith, c.loop-log.invariant.1, c.if-from-reach.false, c.from.ensures) in (
      c.loop-log.invariant.0 ∙ rw (fuel, next) (log_passed (16 - c.loop-log.log) c.loop-log.log c.args.n few),
      ap (λ x. x * 2) c.loop-log.invariant.1 ∙ twice c.loop-log.log c.loop-log.auto.log,
    )

pub returns : goal.returns
returns c =
    let last : c.loop-log.log ≡ 17 = omega (arith, c.loop-log-test.false, c.loop-log.auto.log-end (omega arith)) in
    let ended : 17 - c.loop-log.log ≡ 0 = omega (arith, last) in
    sym (c.loop-log.invariant.0 ∙ rw ended (log_last c.loop-log.log c.args.n) ∙ last)
