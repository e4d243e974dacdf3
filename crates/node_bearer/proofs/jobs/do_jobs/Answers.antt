use Rattle.std.proofs.Common.{◌+◌, ◌∙◌, ◌∷◌, ◌++◌, ap, drop, subst, sym}
use Rattle.std.proofs.lemmas.List.{at_drop_more}
use Rattle.run_definitions.specs.Order.{write, write_tasks}
use Rattle.node_bearer.specs.Did.{DidBy}
use Rattle.node_bearer.proofs.Turning.{goes_on, on_still, stops}
use Rattle.node_bearer.proofs.jobs.do_jobs.Goals as goal

pub do_following-requires-clause-event : goal.do_following-requires-clause-event
do_following-requires-clause-event g c κs lives = c.in_ok-next.ensures.range c.args.place.now.turn.now.first.machine.elements

pub returns-in_err-next-clause-stopped : goal.returns-in_err-next-clause-stopped
returns-in_err-next-clause-stopped g c = λ first tasks rest h.
    let k = c.args.place.now.bearer in
    let jobs = c.args.jobs.now in
    let j = c.loop-j.j in
    let event = c.args.event.now in
    let later = write_tasks c.args.at (j + 1) event (drop (j + 1) jobs) ++ rest in
    let left = at_drop_more (λ js. write_tasks c.args.at j event js ++ rest) jobs j c.index-jobs-j.result c.loop-j-test.true ∙ ap (λ x. write c.args.at j event x ∷ later) (sym c.index-jobs-j.is) in
    stops _ c.from_residual.result c.in_err-next.field-0.0 c.from_residual.ensures.1 (c.in_err-next.ensures.stopped k first tasks later (subst (λ ts. DidBy k first tasks ts c.loop-j.b) left (c.loop-j.invariant.did first tasks rest h)))

pub returns-in_err-do_following-clause-stopped : goal.returns-in_err-do_following-clause-stopped
returns-in_err-do_following-clause-stopped g c = λ first tasks rest h.
    let k = c.args.place.now.bearer in
    let jobs = c.args.jobs.now in
    let j = c.loop-j.j in
    let event = c.args.event.now in
    let later = write_tasks c.args.at (j + 1) event (drop (j + 1) jobs) ++ rest in
    let left = at_drop_more (λ js. write_tasks c.args.at j event js ++ rest) jobs j c.index-jobs-j.result c.loop-j-test.true ∙ ap (λ x. write c.args.at j event x ∷ later) (sym c.index-jobs-j.is) in
    stops _ c.from_residual-in_err-do_following.result c.in_err-do_following.field-0.0 c.from_residual-in_err-do_following.ensures.1 (c.in_err-do_following.ensures.stopped first tasks later
    (c.in_ok-next.ensures.did k first tasks later (subst (λ ts. DidBy k first tasks ts c.loop-j.b) left (c.loop-j.invariant.did first tasks rest h))))

pub returns-in_err-do_following-clause-on : goal.returns-in_err-do_following-clause-on
returns-in_err-do_following-clause-on g c =
    goes_on c.args.b.now c.loop-j.b c.do_following.new.b c.loop-j.invariant.on (goes_on c.loop-j.b c.do_job.new.b c.do_following.new.b c.do_job.ensures.on c.do_following.ensures.on)

pub loop-j-init : goal.loop-j-init
loop-j-init g c = record {
  rider = c.requires.rider;
  on = on_still c.args.b.now;
  did = λ first tasks rest h. h;
}

pub loop-j-preserved : goal.loop-j-preserved
loop-j-preserved g c = record {
  rider = c.do_following.ensures.rider;
  on = goes_on c.args.b.now c.loop-j.b c.do_following.new.b c.loop-j.invariant.on (goes_on c.loop-j.b c.do_job.new.b c.do_following.new.b c.do_job.ensures.on c.do_following.ensures.on);
  did = λ first tasks rest h.
      let k = c.args.place.now.bearer in
      let jobs = c.args.jobs.now in
      let j = c.loop-j.j in
      let event = c.args.event.now in
      let later = write_tasks c.args.at (j + 1) event (drop (j + 1) jobs) ++ rest in
      let left = at_drop_more (λ js. write_tasks c.args.at j event js ++ rest) jobs j c.index-jobs-j.result c.loop-j-test.true ∙ ap (λ x. write c.args.at j event x ∷ later) (sym c.index-jobs-j.is) in
      c.in_ok-do_following.ensures.did first tasks later
      (c.in_ok-next.ensures.did k first tasks later (subst (λ ts. DidBy k first tasks ts c.loop-j.b) left (c.loop-j.invariant.did first tasks rest h)));
}
