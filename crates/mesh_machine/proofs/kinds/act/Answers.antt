use Rattle.std.proofs.Common.{◌≡◌, ◌∙◌, arith, refl, subst, sym}
use Rattle.event_plans.specs.Plans.{of_own}
use Rattle.event_plans.specs.Sending.{IsSendable}
use Rattle.layer_laws.specs.Laws.{IsWithinLimits}
use Rattle.mesh_machine.proofs.Handled.{asked_by, own_bounded, turn_sendable}
use Rattle.mesh_machine.specs.Handling.{IsAsked}
use Rattle.mesh_types.specs.declared.events.Event.{Event}
use Rattle.node_layers.specs.NodeLayers.{node_layers}
use Rattle.node_records.specs.Tables.{config_in}
use Rattle.node_records.specs.declared.persist.Persist.{Persist}
use Rattle.event_definitions.specs.History.{OfNothing}
use Rattle.event_definitions.specs.Jobs.{jobs_of}
use Rattle.mesh_machine.proofs.kinds.act.Goals as goal

pub plan_own-plan-requires-clause-sendable : goal.plan_own-plan-requires-clause-sendable
plan_own-plan-requires-clause-sendable c =
    subst (λ (p : Persist). IsSendable (config_in p) c.args.pending.event.now) (sym c.persist-p.ensures.value) (turn_sendable c.args.parts.now c.args.pending.event.now c.requires.turn)

pub jobs_of_own-jobs-requires-clause-sendable : goal.jobs_of_own-jobs-requires-clause-sendable
jobs_of_own-jobs-requires-clause-sendable c =
    subst (λ (p : Persist). IsSendable (config_in p) c.args.pending.event.now) (sym c.persist-p.ensures.value) (turn_sendable c.args.parts.now c.args.pending.event.now c.requires.turn)

pub returns : goal.returns
returns c =
    let event : Event = c.args.pending.event.now in
    let old = c.args.parts.now in
    let asked : IsAsked old event (of_own c.plan_own-plan.result) c.plan_own-plan.new.tables =
    asked_by old event (of_own c.plan_own-plan.result) c.plan_own-plan.new.tables c.persist-p.result.now c.persist-p.ensures.value
    c.plan_own-plan.ensures.planned tt tt
    (own_bounded old.reserve.store.persist (subst (λ (p : Persist). IsWithinLimits (config_in p)) c.persist.ensures.value c.are_within.ensures.within))
    c.plan_own-plan.ensures.fit in
    record {
      done = record {
        plan = c.plan_own-plan.result;
        asked = asked;
        reserve = refl;
        answer = c.enter.ensures.answer;
        jobs = λ past planned. c.enter.ensures.jobs
            ∙ subst (λ (p : Persist). c.jobs_of_own-jobs.result ≡ jobs_of node_layers past (config_in p) event OfNothing c.plan_own-plan.result.answer) c.persist-p.ensures.value
            (c.jobs_of_own-jobs.ensures.value past c.plan_own-plan.new.tables planned);
        entry = c.enter.ensures.entry;
        moves = c.enter.ensures.moves;
        taken = c.enter.ensures.taken;
        among = c.enter.ensures.place;
        few = omega (arith, c.requires.room.few);
      };
    }
