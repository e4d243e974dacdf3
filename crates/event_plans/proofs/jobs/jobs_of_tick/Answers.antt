use Rattle.event_plans.proofs.Asked.{told_time}
use Rattle.event_definitions.specs.History.{OfNothing}
use Rattle.node_records.specs.Tables.{config_in}
use Rattle.event_plans.proofs.jobs.jobs_of_tick.Goals as goal

pub tick_jobs-requires-clause-held : goal.tick_jobs-requires-clause-held
tick_jobs-requires-clause-held c =
    let (ticks, (past, (t, h))) = c.requires.planned in
    h.basis.1.held

pub returns : goal.returns
returns c = record {
  value = λ past ticks t h unicast.
      c.tick_jobs.ensures.value past ticks OfNothing h.basis.0
      (λ now told. h.basis.1.due (told_time past ticks now OfNothing c.args.plan.now.answer h.answer told) (config_in c.args.p.now) unicast);
}
