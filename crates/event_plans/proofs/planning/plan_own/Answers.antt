use Rattle.std.proofs.Common.{false, subst, sym}
use Rattle.event_plans.proofs.Own.{low_power_planned, own_plan, raw_left, raw_planned}
use Rattle.event_plans.specs.Own.{asked_row}
use Rattle.event_plans.specs.Plans.{IsPlanned}
use Rattle.event_plans.specs.Sending.{IsSendable}
use Rattle.mesh_types.specs.declared.answers.Answer.{Answer}
use Rattle.mesh_types.specs.declared.events.Event.{Event}
use Rattle.node_records.specs.Tables.{config_in}
use Rattle.event_plans.proofs.planning.plan_own.Goals as goal

pub plan_begin-requires-clause-outgoing : goal.plan_begin-requires-clause-outgoing
plan_begin-requires-clause-outgoing c =
    subst (λ (e : Event). IsSendable (config_in c.args.p.now) e) c.in-Begin.is c.requires.sendable

pub returns-in-Begin-clause-planned : goal.returns-in-Begin-clause-planned
returns-in-Begin-clause-planned c past h =
    subst (λ (e : Event). IsPlanned past e (own_plan c.plan_begin.result.answer c.plan_begin.result.befriended) c.plan_begin.new.tables) (sym c.in-Begin.is) (c.plan_begin.ensures.planned past h)

pub returns-in-Kept-clause-planned : goal.returns-in-Kept-clause-planned
returns-in-Kept-clause-planned c past h =
    subst (λ (e : Event). IsPlanned past e (own_plan c.plan_kept.result.answer c.plan_kept.result.befriended) c.plan_kept.new.tables) (sym c.in-Kept.is) (c.plan_kept.ensures.planned past c.args.p.now h)

pub returns-in_default-clause-planned : goal.returns-in_default-clause-planned
returns-in_default-clause-planned c past h =
    let t = c.args.tables.now in
    let event = c.args.event.now in
    subst (λ (a : Answer). IsPlanned past event (own_plan a false) t) (sym c.asked_answer.ensures.value)
    (raw_left event c.requires.own c.in_default.not-Send c.in_default.not-Begin c.in_default.not-Kept
    (λ (e : Event). IsPlanned past e (own_plan (asked_row (config_in c.args.p.now) e) false) t)
    (λ dst ttl tpdu. raw_planned (record { tables = c.tables_law.ensures.more; models = c.node_models_law.ensures.more }) c.friend_steps_law.ensures.others past c.args.p.now t dst ttl tpdu h)
    (λ what. low_power_planned (record { tables = c.tables_law.ensures.more; models = c.node_models_law.ensures.more }) c.friend_steps_law.ensures.others past c.args.p.now t what h))
