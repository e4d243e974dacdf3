use Rattle.std.proofs.Common.{◌++◌, refl, subst, sym}
use Rattle.run_definitions.specs.Order.{follow, write_tasks}
use Rattle.node_bearer.specs.Did.{DidBy}
use Rattle.node_bearer.proofs.Turning.{stops}
use Rattle.node_bearer.proofs.jobs.do_next.Goals as goal

pub returns-clause-stopped : goal.returns-clause-stopped
returns-clause-stopped g c = λ first tasks rest h.
    let a = c.in_ok-answered.answered in
    let event = c.args.event.now in
    c.do_quiet_jobs.ensures.stopped c.args.place.now.bearer first tasks rest
    (subst (λ js. DidBy c.args.place.now.bearer first tasks (write_tasks a.at 0 event js ++ rest) c.act.new.b) (sym c.as_slice.ensures.value) (c.in_ok-answered.ensures.did first tasks rest (follow event) refl h))

pub returns-in_err-answered-clause-stopped : goal.returns-in_err-answered-clause-stopped
returns-in_err-answered-clause-stopped g c = λ first tasks rest h. stops _ c.from_residual.result c.in_err-answered.field-0.0 c.from_residual.ensures.1 (c.in_err-answered.ensures.stopped first tasks rest (follow c.args.event.now) refl h)
