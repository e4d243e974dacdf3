use Rattle.event_plans.proofs.Asked.{befriended_so, own_single}
use Rattle.node_layers.specs.NodeLayers.{node_layers}
use Rattle.node_records.specs.Tables.{config_in}
use Rattle.event_definitions.specs.History.{OfNothing}
use Rattle.event_plans.proofs.jobs.jobs_of_own.Goals as goal

pub own_jobs-requires-clause-single : goal.own_jobs-requires-clause-single
own_jobs-requires-clause-single c =
    own_single (config_in c.args.p.now) c.args.event.now c.requires.own c.requires.sendable c.in_default.not-Begin

pub returns-in_default : goal.returns-in_default
returns-in_default c = record {
  value = λ past t h.
      c.own_jobs.ensures.value node_layers past OfNothing
      (befriended_so past c.args.event.now c.args.plan.now.answer c.args.plan.now.befriended h.basis);
}
