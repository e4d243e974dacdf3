use Rattle.std.proofs.Common.{subst, sym}
use Rattle.node_phase.specs.Worked.{IsFresh, Worked}
use Rattle.node_phase.proofs.Fresh.{worked_by}
use Rattle.node_phase.proofs.bearers.work_phase.Goals as goal

-- the bearer of the seat is what a clause sees of it
pub returns-clause-worked : goal.returns-clause-worked
returns-clause-worked g c =
    let is = c.b.view_is in
    subst (λ old. Worked c.args.place.now.bearer c.args.events.now old (record c.work.new.b { stop = c.err-b-inside.result })) is
    (worked_by c.args.place.now.bearer c.args.events.now c.b.inside.bearer c.work.new.b c.work.result c.err-b-inside.result c.err-b-inside.ensures.value c.work.ensures.on (subst IsFresh (sym is) c.requires.fresh) c.work.ensures.did c.work.ensures.stopped)
