use Rattle.std.proofs.Common.{◌≡◌, ◌<◌, ◌^◌, ◌∷◌, ◌++◌, [], ◌∙◌, ap, arith, refl, subst, sym}
use Rattle.event_plans.specs.Basis.{Plan}
use Rattle.event_plans.specs.Memory.{IsFitFor, NodeTablesView}
use Rattle.event_plans.specs.Plans.{IsStanding, of_tick}
use Rattle.layer_laws.specs.Laws.{IsWithinLimits}
use Rattle.mesh_machine.proofs.Handled.{asked_by, asked_keys, asked_unicast, cut_by, done_by, entry_of, nothing_stored, own_bounded, some_plan}
use Rattle.mesh_machine.specs.Handling.{IsAsked}
use Rattle.mesh_machine.specs.declared.parts.Parts.{Parts}
use Rattle.mesh_types.specs.declared.answers.Answer.{Answer}
use Rattle.mesh_types.specs.declared.events.Event.{Event}
use Rattle.mesh_types.specs.declared.events.Event.TheVariants as E
use Rattle.next_due.specs.Idle.{idle_plan}
use Rattle.next_due.specs.Quiet.{tick_answer}
use Rattle.node_layers.specs.NodeLayers.{node_layers}
use Rattle.node_records.specs.Meaning.{IsMeaningOf}
use Rattle.node_records.specs.Tables.{config_in}
use Rattle.node_records.specs.declared.persist.Persist.{Persist}
use Rattle.event_definitions.specs.History.{OfNothing}
use Rattle.event_definitions.specs.Jobs.{jobs_of}
use Rattle.store_definitions.specs.Config.{Config}
use Rattle.mesh_machine.proofs.kinds.tick.Goals as goal

pub returns-in-Some-clause-done : goal.returns-in-Some-clause-done
returns-in-Some-clause-done g c =
    let event : Event = E.Tick c.args.ticks in
    let old : Parts = c.args.parts.now in
    let p : Persist = c.persist-2.result.now in
    let plan : Plan = of_tick (idle_plan old.tables.hearing.ticks c.in-Some.now p.iv) in
    let fit : IsFitFor old.tables p = subst (λ (q : Persist). IsFitFor old.tables q) (sym c.persist-2.ensures.value) c.requires.turn.ready.fit in
    let asked : IsAsked old event plan c.wait.new.tables =
    asked_by old event plan c.wait.new.tables p c.persist-2.ensures.value c.in-Some.ensures.planned tt tt
    (own_bounded old.reserve.store.persist (subst (λ (q : Persist). IsWithinLimits (config_in q)) c.persist.ensures.value c.are_within.ensures.within))
    (c.wait.ensures.fit fit) in
    let new : Parts = record old { tables = c.wait.new.tables; history = c.enter-told.new.history } in
    record {
      plan = plan;
      tables = c.wait.new.tables;
      asked = asked;
      stored = nothing_stored old new event c.requires.turn asked.fit.keys refl (g.F.Flash.chip c.args.flash.now);
      answer = c.enter-told.ensures.answer;
      jobs = λ past standing planned unicast leaves.
          let means = subst (λ (q : Persist). IsMeaningOf past.records q) (sym c.persist-2.ensures.value) standing.meaning in
          let none = (c.in-Some.ensures.quiet past means standing.tables).jobs in
          let under = subst (λ (d : Config). jobs_of node_layers past d event OfNothing (tick_answer past c.args.ticks) ≡ []) (sym standing.meaning.config) none in
          c.enter-told.ensures.jobs ∙ c.finish-jobs.ensures.value ∙ c.requires.room.none
          ∙ sym (subst (λ (a : Answer). jobs_of node_layers past (config_in old.reserve.store.persist) event OfNothing a ≡ []) (sym planned.answer) under);
      entry = c.enter-told.ensures.entry ∙ ap (λ (e : Event). old.history.entries ++ entry_of c.args.pending.place e c.enter-told.result ∷ []) c.requires.told;
      moves = c.enter-told.ensures.moves;
      taken = c.enter-told.ensures.taken;
      among = c.enter-told.ensures.place;
      few = omega (arith, c.requires.room.few);
    }

pub store-requires-clause-held : goal.store-requires-clause-held
store-requires-clause-held g c =
    let event : Event = E.Tick c.args.ticks in
    let asked : IsAsked c.args.parts.now event (of_tick c.plan_tick-plan.result) c.plan_tick-plan.new.tables =
    asked_by c.args.parts.now event (of_tick c.plan_tick-plan.result) c.plan_tick-plan.new.tables c.persist-in-None.result.now c.persist-in-None.ensures.value
    (λ past s. c.plan_tick-plan.ensures.planned past (subst (λ (t : NodeTablesView). IsStanding past c.persist-in-None.result.now t) (sym c.in-None.ensures.unchanged) s))
    c.plan_tick-plan.ensures.may c.plan_tick-plan.ensures.moves
    (own_bounded c.args.parts.now.reserve.store.persist (subst (λ (p : Persist). IsWithinLimits (config_in p)) c.persist.ensures.value c.are_within.ensures.within))
    c.plan_tick-plan.ensures.fit in
    asked_keys c.ties_law.ensures.laws c.args.parts.now event c.requires.turn (of_tick c.plan_tick-plan.result) c.plan_tick-plan.new.tables asked c.held_keys_law.ensures.whole

pub jobs_of_tick-jobs-requires-clause-planned : goal.jobs_of_tick-jobs-requires-clause-planned
jobs_of_tick-jobs-requires-clause-planned g c =
    let event : Event = E.Tick c.args.ticks in
    let asked : IsAsked c.args.parts.now event (of_tick c.plan_tick-plan.result) c.plan_tick-plan.new.tables =
    asked_by c.args.parts.now event (of_tick c.plan_tick-plan.result) c.plan_tick-plan.new.tables c.persist-in-None.result.now c.persist-in-None.ensures.value
    (λ past s. c.plan_tick-plan.ensures.planned past (subst (λ (t : NodeTablesView). IsStanding past c.persist-in-None.result.now t) (sym c.in-None.ensures.unchanged) s))
    c.plan_tick-plan.ensures.may c.plan_tick-plan.ensures.moves
    (own_bounded c.args.parts.now.reserve.store.persist (subst (λ (p : Persist). IsWithinLimits (config_in p)) c.persist.ensures.value c.are_within.ensures.within))
    c.plan_tick-plan.ensures.fit in
    (c.args.ticks, some_plan c.ties_law.ensures.laws c.args.parts.now event c.requires.turn (of_tick c.plan_tick-plan.result) c.plan_tick-plan.new.tables asked)

pub jobs_of_tick-jobs-requires-clause-unicast : goal.jobs_of_tick-jobs-requires-clause-unicast
jobs_of_tick-jobs-requires-clause-unicast g c =
    let event : Event = E.Tick c.args.ticks in
    let asked : IsAsked c.args.parts.now event (of_tick c.plan_tick-plan.result) c.plan_tick-plan.new.tables =
    asked_by c.args.parts.now event (of_tick c.plan_tick-plan.result) c.plan_tick-plan.new.tables c.persist-in-None.result.now c.persist-in-None.ensures.value
    (λ past s. c.plan_tick-plan.ensures.planned past (subst (λ (t : NodeTablesView). IsStanding past c.persist-in-None.result.now t) (sym c.in-None.ensures.unchanged) s))
    c.plan_tick-plan.ensures.may c.plan_tick-plan.ensures.moves
    (own_bounded c.args.parts.now.reserve.store.persist (subst (λ (p : Persist). IsWithinLimits (config_in p)) c.persist.ensures.value c.are_within.ensures.within))
    c.plan_tick-plan.ensures.fit in
    subst (λ (q : Persist). q.unicast.0 < 2 ^ 15) (sym c.persist-p.ensures.value)
    (asked_unicast c.ties_law.ensures.laws c.args.parts.now event c.requires.turn (of_tick c.plan_tick-plan.result) c.plan_tick-plan.new.tables asked c.store.new.parts.reserve.store.persist
    (c.in-Ok.ensures.stored.value c.requires.turn.ready.past.records c.requires.turn.ready.before.standing.meaning))

pub returns-in-Ok-clause-done : goal.returns-in-Ok-clause-done
returns-in-Ok-clause-done g c =
    let event : Event = E.Tick c.args.ticks in
    let asked : IsAsked c.args.parts.now event (of_tick c.plan_tick-plan.result) c.plan_tick-plan.new.tables =
    asked_by c.args.parts.now event (of_tick c.plan_tick-plan.result) c.plan_tick-plan.new.tables c.persist-in-None.result.now c.persist-in-None.ensures.value
    (λ past s. c.plan_tick-plan.ensures.planned past (subst (λ (t : NodeTablesView). IsStanding past c.persist-in-None.result.now t) (sym c.in-None.ensures.unchanged) s))
    c.plan_tick-plan.ensures.may c.plan_tick-plan.ensures.moves
    (own_bounded c.args.parts.now.reserve.store.persist (subst (λ (p : Persist). IsWithinLimits (config_in p)) c.persist.ensures.value c.are_within.ensures.within))
    c.plan_tick-plan.ensures.fit in
    done_by c.args.parts.now c.store.new.parts c.enter-answered.new.history event c.args.pending.place (g.F.Flash.chip c.args.flash.now) (g.F.Flash.chip c.store.new.flash) c.enter-answered.result (of_tick c.plan_tick-plan.result) c.plan_tick-plan.new.tables
    asked c.in-Ok.ensures.stored c.store.ensures.history c.args.pending.event.now c.requires.told
    c.enter-answered.ensures.entry c.enter-answered.ensures.moves c.enter-answered.ensures.taken c.enter-answered.ensures.place c.enter-answered.ensures.answer c.requires.room.few c.persist-p.result.now c.persist-p.ensures.value c.jobs_of_tick-jobs.result c.enter-answered.ensures.jobs
    (λ past planned unicast leaves. c.jobs_of_tick-jobs.ensures.value past c.args.ticks c.plan_tick-plan.new.tables planned unicast)

pub returns-in-Err-clause-stopped : goal.returns-in-Err-clause-stopped
returns-in-Err-clause-stopped g c =
    let event : Event = E.Tick c.args.ticks in
    let asked : IsAsked c.args.parts.now event (of_tick c.plan_tick-plan.result) c.plan_tick-plan.new.tables =
    asked_by c.args.parts.now event (of_tick c.plan_tick-plan.result) c.plan_tick-plan.new.tables c.persist-in-None.result.now c.persist-in-None.ensures.value
    (λ past s. c.plan_tick-plan.ensures.planned past (subst (λ (t : NodeTablesView). IsStanding past c.persist-in-None.result.now t) (sym c.in-None.ensures.unchanged) s))
    c.plan_tick-plan.ensures.may c.plan_tick-plan.ensures.moves
    (own_bounded c.args.parts.now.reserve.store.persist (subst (λ (p : Persist). IsWithinLimits (config_in p)) c.persist.ensures.value c.are_within.ensures.within))
    c.plan_tick-plan.ensures.fit in
    cut_by c.args.parts.now c.store.new.parts event (g.F.Flash.chip c.args.flash.now) (g.F.Flash.chip c.store.new.flash) (of_tick c.plan_tick-plan.result) c.plan_tick-plan.new.tables asked
    c.in-Err.ensures.halted c.store.ensures.history
