use Rattle.std.proofs.Common.{List, ℕ, ◌<◌, ◌^◌, refl, subst, sym}
use Rattle.event_plans.specs.Plans.{IsPlanned, of_pdu}
use Rattle.machine_ties.specs.Kept.{IsBounded}
use Rattle.mesh_machine.proofs.Handled.{asked_by, asked_keys, asked_unicast, cut_by, done_by, some_plan}
use Rattle.mesh_machine.specs.Handling.{IsAsked}
use Rattle.mesh_types.specs.declared.events.Event.{Event}
use Rattle.mesh_types.specs.declared.events.Event.TheVariants as E
use Rattle.node_records.specs.declared.persist.Persist.{Persist}
use Rattle.mesh_reading.specs.Held.{pdu_insight}
use Rattle.mesh_machine.proofs.kinds.hear.Goals as goal

pub store-requires-clause-held : goal.store-requires-clause-held
store-requires-clause-held g c =
    let event : Event = E.Net c.args.octets.now in
    let asked : IsAsked c.args.parts.now event (of_pdu c.in-Ok.plan) c.plan_pdu.new.tables =
    asked_by c.args.parts.now event (of_pdu c.in-Ok.plan) c.plan_pdu.new.tables c.persist.result.now c.persist.ensures.value
    (λ past s. subst (λ (l : List ℕ). IsPlanned past (E.Net l) (of_pdu c.in-Ok.plan) c.plan_pdu.new.tables) c.as_slice.ensures.value (c.in-Ok.ensures.planned past s))
    c.in-Ok.ensures.may c.in-Ok.ensures.moves
    (subst (λ (p : Persist). IsBounded p (pdu_insight c.in-Ok.plan.basis.heard)) c.persist-in-Ok.ensures.value c.are_bounded.ensures.bounded)
    c.plan_pdu.ensures.fit in
    asked_keys c.ties_law.ensures.laws c.args.parts.now event c.requires.turn (of_pdu c.in-Ok.plan) c.plan_pdu.new.tables asked c.held_keys_law.ensures.whole

pub jobs_of_pdu-jobs-requires-clause-planned : goal.jobs_of_pdu-jobs-requires-clause-planned
jobs_of_pdu-jobs-requires-clause-planned g c =
    let event : Event = E.Net c.args.octets.now in
    let asked : IsAsked c.args.parts.now event (of_pdu c.in-Ok.plan) c.plan_pdu.new.tables =
    asked_by c.args.parts.now event (of_pdu c.in-Ok.plan) c.plan_pdu.new.tables c.persist.result.now c.persist.ensures.value
    (λ past s. subst (λ (l : List ℕ). IsPlanned past (E.Net l) (of_pdu c.in-Ok.plan) c.plan_pdu.new.tables) c.as_slice.ensures.value (c.in-Ok.ensures.planned past s))
    c.in-Ok.ensures.may c.in-Ok.ensures.moves
    (subst (λ (p : Persist). IsBounded p (pdu_insight c.in-Ok.plan.basis.heard)) c.persist-in-Ok.ensures.value c.are_bounded.ensures.bounded)
    c.plan_pdu.ensures.fit in
    (c.args.octets.now, some_plan c.ties_law.ensures.laws c.args.parts.now event c.requires.turn (of_pdu c.in-Ok.plan) c.plan_pdu.new.tables asked)

pub jobs_of_pdu-jobs-requires-clause-unicast : goal.jobs_of_pdu-jobs-requires-clause-unicast
jobs_of_pdu-jobs-requires-clause-unicast g c =
    let event : Event = E.Net c.args.octets.now in
    let asked : IsAsked c.args.parts.now event (of_pdu c.in-Ok.plan) c.plan_pdu.new.tables =
    asked_by c.args.parts.now event (of_pdu c.in-Ok.plan) c.plan_pdu.new.tables c.persist.result.now c.persist.ensures.value
    (λ past s. subst (λ (l : List ℕ). IsPlanned past (E.Net l) (of_pdu c.in-Ok.plan) c.plan_pdu.new.tables) c.as_slice.ensures.value (c.in-Ok.ensures.planned past s))
    c.in-Ok.ensures.may c.in-Ok.ensures.moves
    (subst (λ (p : Persist). IsBounded p (pdu_insight c.in-Ok.plan.basis.heard)) c.persist-in-Ok.ensures.value c.are_bounded.ensures.bounded)
    c.plan_pdu.ensures.fit in
    subst (λ (q : Persist). q.unicast.0 < 2 ^ 15) (sym c.persist-p.ensures.value)
    (asked_unicast c.ties_law.ensures.laws c.args.parts.now event c.requires.turn (of_pdu c.in-Ok.plan) c.plan_pdu.new.tables asked c.store.new.parts.reserve.store.persist
    (c.in-Ok-store.ensures.stored.value c.requires.turn.ready.past.records c.requires.turn.ready.before.standing.meaning))

pub returns-in-Ok-store-clause-done : goal.returns-in-Ok-store-clause-done
returns-in-Ok-store-clause-done g c =
    let event : Event = E.Net c.args.octets.now in
    let asked : IsAsked c.args.parts.now event (of_pdu c.in-Ok.plan) c.plan_pdu.new.tables =
    asked_by c.args.parts.now event (of_pdu c.in-Ok.plan) c.plan_pdu.new.tables c.persist.result.now c.persist.ensures.value
    (λ past s. subst (λ (l : List ℕ). IsPlanned past (E.Net l) (of_pdu c.in-Ok.plan) c.plan_pdu.new.tables) c.as_slice.ensures.value (c.in-Ok.ensures.planned past s))
    c.in-Ok.ensures.may c.in-Ok.ensures.moves
    (subst (λ (p : Persist). IsBounded p (pdu_insight c.in-Ok.plan.basis.heard)) c.persist-in-Ok.ensures.value c.are_bounded.ensures.bounded)
    c.plan_pdu.ensures.fit in
    done_by c.args.parts.now c.store.new.parts c.enter.new.history event c.args.pending.place (g.F.Flash.chip c.args.flash.now) (g.F.Flash.chip c.store.new.flash) c.enter.result (of_pdu c.in-Ok.plan) c.plan_pdu.new.tables
    asked c.in-Ok-store.ensures.stored c.store.ensures.history c.args.pending.event.now c.requires.heard
    c.enter.ensures.entry c.enter.ensures.moves c.enter.ensures.taken c.enter.ensures.place c.enter.ensures.answer c.requires.room.few c.persist-p.result.now c.persist-p.ensures.value c.jobs_of_pdu-jobs.result c.enter.ensures.jobs
    (λ past planned unicast leaves. c.jobs_of_pdu-jobs.ensures.value past c.args.octets.now c.plan_pdu.new.tables planned leaves)

pub returns-in-Err-store-clause-stopped : goal.returns-in-Err-store-clause-stopped
returns-in-Err-store-clause-stopped g c =
    let event : Event = E.Net c.args.octets.now in
    let asked : IsAsked c.args.parts.now event (of_pdu c.in-Ok.plan) c.plan_pdu.new.tables =
    asked_by c.args.parts.now event (of_pdu c.in-Ok.plan) c.plan_pdu.new.tables c.persist.result.now c.persist.ensures.value
    (λ past s. subst (λ (l : List ℕ). IsPlanned past (E.Net l) (of_pdu c.in-Ok.plan) c.plan_pdu.new.tables) c.as_slice.ensures.value (c.in-Ok.ensures.planned past s))
    c.in-Ok.ensures.may c.in-Ok.ensures.moves
    (subst (λ (p : Persist). IsBounded p (pdu_insight c.in-Ok.plan.basis.heard)) c.persist-in-Ok.ensures.value c.are_bounded.ensures.bounded)
    c.plan_pdu.ensures.fit in
    cut_by c.args.parts.now c.store.new.parts event (g.F.Flash.chip c.args.flash.now) (g.F.Flash.chip c.store.new.flash) (of_pdu c.in-Ok.plan) c.plan_pdu.new.tables asked
    c.in-Err-store.ensures.halted c.store.ensures.history

pub returns-in-Err-clause-stopped : goal.returns-in-Err-clause-stopped
returns-in-Err-clause-stopped g c = (record { reserve = refl; tables = c.in-Err.ensures.unchanged; history = refl }, refl)
