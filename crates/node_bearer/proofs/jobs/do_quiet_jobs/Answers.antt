use Rattle.std.proofs.Common.{ap, drop, map, subst, sym, ◌++◌, ◌+◌, ◌∙◌, ◌∷◌}
use Rattle.std.proofs.lemmas.List.{at_drop_more}
use Rattle.run_definitions.specs.Order.{follow, write, write_tasks}
use Rattle.node_bearer.specs.Did.{DidBy}
use Rattle.std.specs.Option.{option_to_list}
use Rattle.machine_contract.specs.Ranges.{IsQuiet}
use Rattle.node_bearer.proofs.Turning.{goes_on, on_still, stops}
use Rattle.node_bearer.proofs.jobs.do_quiet_jobs.Goals as goal

pub returns-in_err-do_job-clause-stopped : goal.returns-in_err-do_job-clause-stopped
returns-in_err-do_job-clause-stopped g c = λ k first tasks rest h.
    let jobs = c.args.jobs.now in
    let j = c.loop-j.j in
    let event = c.args.event.now in
    let later = write_tasks c.args.at (j + 1) event (drop (j + 1) jobs) ++ rest in
    let left = at_drop_more (λ js. write_tasks c.args.at j event js ++ rest) jobs j c.index-jobs-j.result c.loop-j-test.true ∙ ap (λ x. write c.args.at j event x ∷ later) (sym c.index-jobs-j.is) in
    stops _ c.from_residual.result c.in_err-do_job.field-0.0 c.from_residual.ensures.1 (c.in_err-do_job.ensures.stopped k first tasks later (subst (λ ts. DidBy k first tasks ts c.loop-j.b) left (c.loop-j.invariant.did k first tasks rest h)))

pub loop-j-init : goal.loop-j-init
loop-j-init g c = record {
  rider = c.requires.rider;
  on = on_still c.args.b.now;
  did = λ k first tasks rest h. h;
}

pub loop-j-preserved : goal.loop-j-preserved
loop-j-preserved g c = record {
  rider = c.do_job.ensures.rider;
  on = goes_on c.args.b.now c.loop-j.b c.do_job.new.b c.loop-j.invariant.on c.do_job.ensures.on;
  did = λ k first tasks rest h.
      let jobs = c.args.jobs.now in
      let j = c.loop-j.j in
      let event = c.args.event.now in
      let later = write_tasks c.args.at (j + 1) event (drop (j + 1) jobs) ++ rest in
      let left = at_drop_more (λ js. write_tasks c.args.at j event js ++ rest) jobs j c.index-jobs-j.result c.loop-j-test.true ∙ ap (λ x. write c.args.at j event x ∷ later) (sym c.index-jobs-j.is) in
      let none = c.in_ok-do_job.ensures.quiet (subst IsQuiet (sym c.index-jobs-j.is) (c.requires.quiet j c.index-jobs-j.result c.loop-j-test.true)) in
      subst (λ next. DidBy k first tasks (map (λ e. follow e) (option_to_list next) ++ later) c.do_job.new.b) none
      (c.in_ok-do_job.ensures.did k first tasks later (subst (λ ts. DidBy k first tasks ts c.loop-j.b) left (c.loop-j.invariant.did k first tasks rest h)));
}
