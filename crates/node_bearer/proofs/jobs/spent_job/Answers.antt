use Rattle.std.proofs.Common.{subst, sym}
use Rattle.node_bearer.specs.Did.{Did}
use Rattle.node_bearer.proofs.Doing.{after_spent, did_spent}
use Rattle.node_bearer.proofs.jobs.spent_job.Goals as goal

pub returns-in-Ok-clause-did : goal.returns-in-Ok-clause-did
returns-in-Ok-clause-did g c = λ k first tasks rest h.
    let b = c.args.b.now in
    subst (λ ls. Did k first tasks rest b.pass.own b.pass.seen ls b.number b.drawer) (sym c.in-Ok.ensures.items)
    (did_spent k first tasks rest b.pass.own b.pass.seen b.lines.items b.number h.before b.drawer c.args.at c.args.j c.args.event.now c.args.job.now c.args.iv
    c.requires.there c.requires.draws (after_spent c.args.job.now c.args.iv) h.saw h.did)
