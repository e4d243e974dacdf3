use Rattle.std.proofs.Common.{ap, false, fold, subst, sym, ◌∙◌}
use Rattle.event_plans.proofs.Own.{begin_planned, own_plan}
use Rattle.event_plans.specs.Memory.{NodeTablesView}
use Rattle.event_plans.specs.Own.{begin_calls, begin_row}
use Rattle.event_plans.specs.Plans.{IsPlanned, IsStanding}
use Rattle.layer_states.specs.Sending.{after}
use Rattle.mesh_hearing.specs.Tables.{TablesView}
use Rattle.mesh_types.specs.declared.answers.Answer.{Answer}
use Rattle.mesh_types.specs.declared.events.Event.{Event}
use Rattle.mesh_types.specs.declared.events.Event.TheVariants as E
use Rattle.node_records.specs.Tables.{config_in}
use Rattle.event_plans.proofs.planning.plan_begin.Goals as goal

pub returns-clause-planned : goal.returns-clause-planned
returns-clause-planned c past h =
    let t : NodeTablesView = record { hearing = c.tables.inside.hearing; models = c.tables.inside.models; friends = c.tables.inside.friends } in
    let m = c.args.m.now in
    let befriended = c.is_befriended-befriended.result in
    let event : Event = E.Begin m in
    let begun : Answer → TablesView = λ a. record t.hearing { own = fold after t.hearing.own (begin_calls t.hearing.ticks m a) } in
    let stands : IsStanding past c.args.p.now t = subst (λ (v : NodeTablesView). IsStanding past c.args.p.now v) (sym c.tables.view_is) h in
    subst (λ (u : TablesView). IsPlanned past event (own_plan c.begin_answer.result false) (record t { hearing = u }))
    (sym (c.begin_answer.ensures.tables ∙ ap begun c.begin_answer.ensures.value))
    (subst (λ (a : Answer). IsPlanned past event (own_plan a false) (record t { hearing = begun (begin_row (config_in c.args.p.now) befriended t.hearing.own m.name.pair) }))
    (sym c.begin_answer.ensures.value)
    (begin_planned (record { tables = c.tables_law.ensures.more; models = c.node_models_law.ensures.more }) c.friend_steps_law.ensures.others past c.args.p.now t befriended m
    stands (c.is_befriended-befriended.ensures.past past stands.tables.friends)))
