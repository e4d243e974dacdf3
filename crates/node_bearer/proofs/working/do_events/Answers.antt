use Rattle.std.proofs.Common.{◌+◌, ◌++◌, drop, map, subst, sym}
use Rattle.std.specs.Prelude.{All}
use Rattle.machine_contract.specs.Ranges.{IsJob}
use Rattle.run_definitions.specs.Order.{handle, write_tasks}
use Rattle.node_bearer.specs.Did.{DidBy}
use Rattle.node_bearer.specs.Marked.{HasEntry}
use Rattle.node_bearer.proofs.Turning.{stops}
use Rattle.node_bearer.proofs.working.do_events.Goals as goal

-- the event that is worked on is the last that was handled
pub do_jobs-done-requires-clause-entry : goal.do_jobs-done-requires-clause-entry
do_jobs-done-requires-clause-entry g c κs lives =
    let a = c.in_ok-acted.acted.answered in
    let event = c.index-events-last.result in
    subst (λ js. HasEntry c.act_on.new.b.pass.seen a.at event js c.act_on.new.b.drawer.informed) (sym c.as_slice-jobs.ensures.value)
    (subst (λ x. HasEntry c.act_on.new.b.pass.seen a.at x a.jobs c.act_on.new.b.drawer.informed) (sym c.index-events-last.is) (c.in_ok-acted.ensures.entry event))

pub do_jobs-done-requires-clause-jobs : goal.do_jobs-done-requires-clause-jobs
do_jobs-done-requires-clause-jobs g c κs lives =
    let a = c.in_ok-acted.acted.answered in
    let event = c.index-events-last.result in
    subst (λ js. All (IsJob event) js) (sym c.as_slice-jobs.ensures.value)
    (subst (λ x. All (IsJob x) a.jobs) (sym c.index-events-last.is) (c.in_ok-acted.ensures.jobs event))

pub returns-clause-did : goal.returns-clause-did
returns-clause-did g c = λ first tasks rest h.
    let k = c.args.place.now.bearer in
    let events = c.args.events.now in
    let a = c.in_ok-acted.acted.answered in
    let event = c.index-events-last.result in
    let later = map (λ x. handle x) (drop (c.in_ok-acted.acted.last + 1) events) ++ rest in
    let was = subst (λ js. DidBy k first tasks (write_tasks a.at 0 event js ++ later) c.act_on.new.b) (sym c.as_slice-jobs.ensures.value)
    (subst (λ x. DidBy k first tasks (write_tasks a.at 0 x a.jobs ++ later) c.act_on.new.b) (sym c.index-events-last.is) (c.in_ok-acted.ensures.did first tasks rest event h)) in
    c.in_ok-done.ensures.did first tasks later was

pub returns-in_err-acted-clause-stopped : goal.returns-in_err-acted-clause-stopped
returns-in_err-acted-clause-stopped g c = λ first tasks rest h. stops _ c.from_residual.result c.in_err-acted.field-0.0 c.from_residual.ensures.1 (c.in_err-acted.ensures.stopped first tasks rest h)

pub returns-in_err-done-clause-stopped : goal.returns-in_err-done-clause-stopped
returns-in_err-done-clause-stopped g c = λ first tasks rest h.
    let k = c.args.place.now.bearer in
    let events = c.args.events.now in
    let a = c.in_ok-acted.acted.answered in
    let event = c.index-events-last.result in
    let later = map (λ x. handle x) (drop (c.in_ok-acted.acted.last + 1) events) ++ rest in
    let was = subst (λ js. DidBy k first tasks (write_tasks a.at 0 event js ++ later) c.act_on.new.b) (sym c.as_slice-jobs.ensures.value)
    (subst (λ x. DidBy k first tasks (write_tasks a.at 0 x a.jobs ++ later) c.act_on.new.b) (sym c.index-events-last.is) (c.in_ok-acted.ensures.did first tasks rest event h)) in
    stops _ c.from_residual-in_err-done.result c.in_err-done.field-0.0 c.from_residual-in_err-done.ensures.1 (c.in_err-done.ensures.stopped first tasks later was)
