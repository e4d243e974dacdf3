use Rattle.std.proofs.Common.{ap, subst, sym, ◌∙◌}
use Rattle.event_plans.proofs.Own.{AreWith, asked_idle, idle_untimed, own_plan, send_planned}
use Rattle.event_plans.specs.Memory.{NodeTablesView}
use Rattle.event_plans.specs.Own.{asked_row}
use Rattle.event_plans.specs.Plans.{IsPlanned, IsStanding}
use Rattle.mesh_types.specs.declared.answers.Answer.{Answer}
use Rattle.node_models.specs.Models.{is_ticked}
use Rattle.node_records.specs.Tables.{config_in}
use Rattle.event_plans.proofs.planning.plan_send.Goals as goal

pub returns-clause-planned : goal.returns-clause-planned
returns-clause-planned c past h =
    let t : NodeTablesView = record { hearing = c.tables.inside.hearing; models = c.tables.inside.models; friends = c.tables.inside.friends } in
    let event = c.args.event.now in
    let befriended = c.store_send-befriended.result in
    let a : Answer = asked_row (config_in c.args.p.now) event in
    let stands : IsStanding past c.args.p.now t = subst (λ (v : NodeTablesView). IsStanding past c.args.p.now v) (sym c.tables.view_is) h in
    let untimed = ap (λ (x : Answer). is_ticked x) c.asked_answer-answer.ensures.value ∙ idle_untimed a (asked_idle (config_in c.args.p.now) event) in
    let friends : AreWith c.store_send-befriended.new.friends past event a =
    λ e is insight answer same. c.store_send-befriended.ensures.friends past e stands.meaning stands.tables.friends untimed is insight
    (answer ∙ sym c.asked_answer-answer.ensures.value) same in
    subst (λ (x : Answer). IsPlanned past event (own_plan x befriended) (record t { friends = c.store_send-befriended.new.friends }))
    (sym c.asked_answer-answer.ensures.value)
    (send_planned (record { tables = c.tables_law.ensures.more; models = c.node_models_law.ensures.more }) past c.args.p.now t event befriended
    c.store_send-befriended.new.friends c.requires.send stands
    (c.store_send-befriended.ensures.befriended past stands.tables.friends) friends)
