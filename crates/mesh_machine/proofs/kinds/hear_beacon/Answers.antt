use Rattle.std.proofs.Common.{List, ℕ, refl, subst}
use Rattle.event_plans.specs.Plans.{IsPlanned, of_beacon}
use Rattle.mesh_machine.proofs.Handled.{asked_by, asked_keys, cut_by, done_by}
use Rattle.mesh_machine.specs.Handling.{IsAsked}
use Rattle.mesh_types.specs.declared.events.Event.{Event}
use Rattle.mesh_types.specs.declared.events.Event.TheVariants as E
use Rattle.node_records.specs.declared.persist.Persist.{Persist}
use Rattle.layer_laws.specs.Laws.{IsWithinLimits}
use Rattle.mesh_machine.proofs.Handled.{beacon_bounded}
use Rattle.node_records.specs.Tables.{config_in}
use Rattle.mesh_machine.proofs.kinds.hear_beacon.Goals as goal

pub store-requires-clause-held : goal.store-requires-clause-held
store-requires-clause-held g c =
    let event : Event = E.Bcn c.args.octets.now in
    let asked : IsAsked c.args.parts.now event (of_beacon c.plan_beacon-plan.result) c.plan_beacon-plan.new.tables =
    asked_by c.args.parts.now event (of_beacon c.plan_beacon-plan.result) c.plan_beacon-plan.new.tables c.persist-2.result.now c.persist-2.ensures.value
    (λ past s. subst (λ (l : List ℕ). IsPlanned past (E.Bcn l) (of_beacon c.plan_beacon-plan.result) c.plan_beacon-plan.new.tables) c.as_slice.ensures.value (c.plan_beacon-plan.ensures.planned past s))
    c.plan_beacon-plan.ensures.may c.plan_beacon-plan.ensures.moves
    (beacon_bounded c.args.parts.now.reserve.store.persist c.plan_beacon-plan.result.heard.reset c.plan_beacon-plan.result.heard.beacon (subst (λ (p : Persist). IsWithinLimits (config_in p)) c.persist.ensures.value c.are_within.ensures.within))
    c.plan_beacon-plan.ensures.fit in
    asked_keys c.ties_law.ensures.laws c.args.parts.now event c.requires.turn (of_beacon c.plan_beacon-plan.result) c.plan_beacon-plan.new.tables asked c.held_keys_law.ensures.whole

pub returns-clause-done : goal.returns-clause-done
returns-clause-done g c =
    let event : Event = E.Bcn c.args.octets.now in
    let asked : IsAsked c.args.parts.now event (of_beacon c.plan_beacon-plan.result) c.plan_beacon-plan.new.tables =
    asked_by c.args.parts.now event (of_beacon c.plan_beacon-plan.result) c.plan_beacon-plan.new.tables c.persist-2.result.now c.persist-2.ensures.value
    (λ past s. subst (λ (l : List ℕ). IsPlanned past (E.Bcn l) (of_beacon c.plan_beacon-plan.result) c.plan_beacon-plan.new.tables) c.as_slice.ensures.value (c.plan_beacon-plan.ensures.planned past s))
    c.plan_beacon-plan.ensures.may c.plan_beacon-plan.ensures.moves
    (beacon_bounded c.args.parts.now.reserve.store.persist c.plan_beacon-plan.result.heard.reset c.plan_beacon-plan.result.heard.beacon (subst (λ (p : Persist). IsWithinLimits (config_in p)) c.persist.ensures.value c.are_within.ensures.within))
    c.plan_beacon-plan.ensures.fit in
    done_by c.args.parts.now c.store.new.parts c.enter.new.history event c.args.pending.place (g.F.Flash.chip c.args.flash.now) (g.F.Flash.chip c.store.new.flash) c.enter.result (of_beacon c.plan_beacon-plan.result) c.plan_beacon-plan.new.tables
    asked c.in-Ok.ensures.stored c.store.ensures.history c.args.pending.event.now c.requires.heard
    c.enter.ensures.entry c.enter.ensures.moves c.enter.ensures.taken c.enter.ensures.place c.enter.ensures.answer c.requires.room.few c.store.new.parts.reserve.store.persist refl c.jobs_of_beacon-jobs.result c.enter.ensures.jobs
    (λ past planned unicast leaves. c.jobs_of_beacon-jobs.ensures.value past _ c.args.octets.now _ _)

pub returns-in-Err-clause-stopped : goal.returns-in-Err-clause-stopped
returns-in-Err-clause-stopped g c =
    let event : Event = E.Bcn c.args.octets.now in
    let asked : IsAsked c.args.parts.now event (of_beacon c.plan_beacon-plan.result) c.plan_beacon-plan.new.tables =
    asked_by c.args.parts.now event (of_beacon c.plan_beacon-plan.result) c.plan_beacon-plan.new.tables c.persist-2.result.now c.persist-2.ensures.value
    (λ past s. subst (λ (l : List ℕ). IsPlanned past (E.Bcn l) (of_beacon c.plan_beacon-plan.result) c.plan_beacon-plan.new.tables) c.as_slice.ensures.value (c.plan_beacon-plan.ensures.planned past s))
    c.plan_beacon-plan.ensures.may c.plan_beacon-plan.ensures.moves
    (beacon_bounded c.args.parts.now.reserve.store.persist c.plan_beacon-plan.result.heard.reset c.plan_beacon-plan.result.heard.beacon (subst (λ (p : Persist). IsWithinLimits (config_in p)) c.persist.ensures.value c.are_within.ensures.within))
    c.plan_beacon-plan.ensures.fit in
    cut_by c.args.parts.now c.store.new.parts event (g.F.Flash.chip c.args.flash.now) (g.F.Flash.chip c.store.new.flash) (of_beacon c.plan_beacon-plan.result) c.plan_beacon-plan.new.tables asked
    c.in-Err.ensures.halted c.store.ensures.history
