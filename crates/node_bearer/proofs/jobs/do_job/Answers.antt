use Rattle.std.proofs.Common.{◌≡◌, true, ◌∷◌, subst}
use Rattle.run_definitions.specs.Lines.{is_drawing}
use Rattle.run_definitions.specs.Order.{write}
use Rattle.node_bearer.specs.Did.{DrewBy}
use Rattle.node_bearer.proofs.Turning.{asked_by, job_on, on_both, on_written, stops}
use Rattle.node_bearer.proofs.jobs.do_job.Goals as goal

pub draw-requires-clause-asked : goal.draw-requires-clause-asked
draw-requires-clause-asked g c κs lives =
    let draws : is_drawing c.args.job.now ≡ true = cc (c.draws.ensures.value, c.if-not-draws.false) in
    asked_by c.args.place.now.turn.now.first.machine.taken c.args.b.now.pass.seen c.args.at c.args.j c.args.event.now c.args.job.now c.args.b.now.drawer.informed c.requires.since c.requires.there draws

pub returns-then-not-draws-clause-on : goal.returns-then-not-draws-clause-on
returns-then-not-draws-clause-on g c = on_written c.args.b.now c.plain_job.new.b c.plain_job.ensures.frame

pub drawn_job-requires-clause-there : goal.drawn_job-requires-clause-there
drawn_job-requires-clause-there g c κs within = job_on c.args.b.now c.draw.new.b c.args.at c.args.j c.args.event.now c.args.job.now c.draw.ensures.on c.requires.there

pub spent_job-requires-clause-there : goal.spent_job-requires-clause-there
spent_job-requires-clause-there g c κs within = job_on c.args.b.now c.draw.new.b c.args.at c.args.j c.args.event.now c.args.job.now c.draw.ensures.on c.requires.there

pub returns-in_err-pair-clause-stopped : goal.returns-in_err-pair-clause-stopped
returns-in_err-pair-clause-stopped g c = λ k first tasks rest h.
    let left = write c.args.at c.args.j c.args.event.now c.args.job.now ∷ rest in
    let draws : is_drawing c.args.job.now ≡ true = cc (c.draws.ensures.value, c.if-not-draws.false) in
    stops _ c.from_residual.result c.in_err-pair.field-0.0 c.from_residual.ensures.1 (on_both c.in_err-pair.field-0.0 (λ s d. record { left = left; is = s; stuck = draws; dry = d })
    (c.in_err-pair.ensures.stopped k first tasks left h) c.in_err-pair.ensures.dry)

pub returns-in-Pair-clause-did : goal.returns-in-Pair-clause-did
returns-in-Pair-clause-did g c = λ k first tasks rest h.
    let left = write c.args.at c.args.j c.args.event.now c.args.job.now ∷ rest in
    c.drawn_job.ensures.did k first tasks rest (subst (λ r. DrewBy r k first tasks left c.draw.new.b) c.in-Pair.is (c.in_ok-pair.ensures.did k first tasks left h))

pub returns-in-Spent-clause-did : goal.returns-in-Spent-clause-did
returns-in-Spent-clause-did g c = λ k first tasks rest h.
    let left = write c.args.at c.args.j c.args.event.now c.args.job.now ∷ rest in
    c.spent_job.ensures.did k first tasks rest (subst (λ r. DrewBy r k first tasks left c.draw.new.b) c.in-Spent.is (c.in_ok-pair.ensures.did k first tasks left h))
