use Rattle.std.proofs.Common.{◌≡◌, ◌⊎◌, true, ◌++◌, length, ap, sym, subst, ◌∙◌}
use Rattle.event_plans.specs.Plans.{IsPlanned, insight_in}
use Rattle.event_records.specs.Putting.{AreMoves}
use Rattle.event_world.specs.Stepping.{HasStepped}
use Rattle.machine_contract.specs.Ranges.{IsEvent}
use Rattle.machine_contract.specs.Refused.{Closes}
use Rattle.machine_contract.specs.View.{entry_for, with_entry}
use Rattle.machine_contract.specs.declared.answers.Hand.TheVariants as H
use Rattle.machine_ties.specs.Ties.{IsReady, IsSound, Stands}
use Rattle.machine_ties.specs.Views.{NodeMachine, shown}
use Rattle.mesh_machine.proofs.Handled.{closes_stopped, jobs_done, never_closed, of_flash, of_memory, quiet_done, ready_done, reserved_same, same_parts, shown_done, stands_done, stands_stopped}
use Rattle.mesh_machine.specs.Handling.{IsKnownFor, machine_of}
use Rattle.machine_standing.specs.declared.entering.Place.{Place}
use Rattle.mesh_machine.specs.declared.parts.Parts.{Parts}
use Rattle.mesh_types.specs.declared.answers.Answer.{Answer}
use Rattle.mesh_types.specs.declared.events.Event.{Event}
use Rattle.node_layers.specs.NodeLayers.{node_layers}
use Rattle.node_records.specs.Meaning.{IsMeaningOf}
use Rattle.node_records.specs.Tables.{config_in}
use Rattle.node_records.specs.declared.persist.Persist.{Persist}
use Rattle.event_definitions.specs.History.{Insight}
use Rattle.event_definitions.specs.Stores.{stores}
use Rattle.machine_standing.proofs.Moved.{risen_so}
use Rattle.seq_word.specs.Seen.{KeeperView, last_word, went_to}
use Rattle.store_world.specs.Standing.{IsWorldOf}
use Rattle.mesh_machine.proofs.state.MeshState.handle_event.Goals as goal

pub handle-requires-clause-turn : goal.handle-requires-clause-turn
handle-requires-clause-turn g c =
    let i = c.self.inside in
    let m : NodeMachine = machine_of i.parts i.fills i.closed i.hand i.elements in
    let parts : Parts = record i.parts { history = c.room.new.history } in
    let same : machine_of parts i.fills i.closed i.hand i.elements ≡ m =
    reserved_same i.parts c.room.new.history i.fills i.closed i.hand i.elements c.room.ensures.entries c.room.ensures.moves c.room.ensures.taken in
    let ready : IsReady (machine_of parts i.fills i.closed i.hand i.elements) = subst IsReady (sym same) (c.self.invariant c.if-self.false) in
    record { fills = i.fills; closed = i.closed; hand = i.hand; elements = i.elements; ready = ready; given = subst (λ (v : NodeMachine). IsEvent v.elements c.args.event.now) (sym c.self.view_is) c.requires.event }

pub handle-requires-clause-known : goal.handle-requires-clause-known
handle-requires-clause-known g c =
    subst (λ (v : NodeMachine). IsKnownFor v.tables v.reserve.store.persist c.args.event.now c.args.known) (sym c.self.view_is) c.requires.known

pub invariant_of-self-in-Ok : goal.invariant_of-self-in-Ok
invariant_of-self-in-Ok g c e =
    let i = c.self.inside in
    let m : NodeMachine = machine_of i.parts i.fills i.closed i.hand i.elements in
    let parts : Parts = record i.parts { history = c.room.new.history } in
    let same : machine_of parts i.fills i.closed i.hand i.elements ≡ m =
    reserved_same i.parts c.room.new.history i.fills i.closed i.hand i.elements c.room.ensures.entries c.room.ensures.moves c.room.ensures.taken in
    let ready : IsReady (machine_of parts i.fills i.closed i.hand i.elements) = subst IsReady (sym same) (c.self.invariant c.if-self.false) in
    let place : Place = record { bearer = c.args.bearer; number = c.args.number; fills = i.fills } in
    let old = g.F.Flash.chip c.args.flash.now in
    let new = g.F.Flash.chip c.handle.new.flash in
    let event : Event = c.args.event.now in
    let a = c.in-Ok.answered in
    let d = c.in-Ok.ensures.done in
    ready_done c.ties_law.ensures.laws parts c.handle.new.parts event place old new a d i.closed i.hand i.elements ready c.node_models_law.ensures.within

pub returns-in-Ok-clause-ok : goal.returns-in-Ok-clause-ok
returns-in-Ok-clause-ok g c =
    let i = c.self.inside in
    let m : NodeMachine = machine_of i.parts i.fills i.closed i.hand i.elements in
    let parts : Parts = record i.parts { history = c.room.new.history } in
    let same : machine_of parts i.fills i.closed i.hand i.elements ≡ m =
    reserved_same i.parts c.room.new.history i.fills i.closed i.hand i.elements c.room.ensures.entries c.room.ensures.moves c.room.ensures.taken in
    let place : Place = record { bearer = c.args.bearer; number = c.args.number; fills = i.fills } in
    let old = g.F.Flash.chip c.args.flash.now in
    let new = g.F.Flash.chip c.handle.new.flash in
    let event : Event = c.args.event.now in
    let a = c.in-Ok.answered in
    let d = c.in-Ok.ensures.done in
    subst (λ (v : NodeMachine). shown (machine_of c.handle.new.parts 0 i.closed i.hand i.elements)
    ≡ with_entry (shown v) (entry_for (shown v) c.args.bearer c.args.number event a.answer a.jobs) (last_word (went_to c.handle.new.parts.reserve.keeper.advances)) c.handle.new.parts.reserve.keeper.mark) (same ∙ c.self.view_is)
    (shown_done c.ties_law.ensures.laws parts c.handle.new.parts event place old new a d i.closed i.hand i.elements)

pub returns-in-Ok-clause-place : goal.returns-in-Ok-clause-place
returns-in-Ok-clause-place g c =
    let i = c.self.inside in
    let m : NodeMachine = machine_of i.parts i.fills i.closed i.hand i.elements in
    let parts : Parts = record i.parts { history = c.room.new.history } in
    let same : machine_of parts i.fills i.closed i.hand i.elements ≡ m =
    reserved_same i.parts c.room.new.history i.fills i.closed i.hand i.elements c.room.ensures.entries c.room.ensures.moves c.room.ensures.taken in
    let place : Place = record { bearer = c.args.bearer; number = c.args.number; fills = i.fills } in
    let old = g.F.Flash.chip c.args.flash.now in
    let new = g.F.Flash.chip c.handle.new.flash in
    let event : Event = c.args.event.now in
    let a = c.in-Ok.answered in
    let d = c.in-Ok.ensures.done in
    subst (λ (v : NodeMachine). a.at ≡ length v.entries) (same ∙ c.self.view_is) d.among

pub returns-in-Ok-clause-risen : goal.returns-in-Ok-clause-risen
returns-in-Ok-clause-risen g c =
    let i = c.self.inside in
    let k : KeeperView = c.handle.new.parts.reserve.keeper in
    subst (λ (v : NodeMachine). ((k.advances ≡ v.reserve.keeper.advances) × (k.mark ≡ v.reserve.keeper.mark)) ⊎ (k.mark ≡ last_word (went_to k.advances))) c.self.view_is
    (risen_so i.parts.reserve.keeper k c.in-Ok.ensures.done.stored.risen)

pub returns-in-Ok-clause-jobs : goal.returns-in-Ok-clause-jobs
returns-in-Ok-clause-jobs g c =
    let i = c.self.inside in
    let m : NodeMachine = machine_of i.parts i.fills i.closed i.hand i.elements in
    let parts : Parts = record i.parts { history = c.room.new.history } in
    let same : machine_of parts i.fills i.closed i.hand i.elements ≡ m =
    reserved_same i.parts c.room.new.history i.fills i.closed i.hand i.elements c.room.ensures.entries c.room.ensures.moves c.room.ensures.taken in
    let ready : IsReady (machine_of parts i.fills i.closed i.hand i.elements) = subst IsReady (sym same) (c.self.invariant c.if-self.false) in
    let place : Place = record { bearer = c.args.bearer; number = c.args.number; fills = i.fills } in
    let old = g.F.Flash.chip c.args.flash.now in
    let new = g.F.Flash.chip c.handle.new.flash in
    let event : Event = c.args.event.now in
    let a = c.in-Ok.answered in
    let d = c.in-Ok.ensures.done in
    jobs_done c.ties_law.ensures.laws parts c.handle.new.parts event place old new a d i.closed i.hand i.elements ready (subst (λ (v : NodeMachine). IsEvent v.elements c.args.event.now) (sym c.self.view_is) c.requires.event)

pub returns-in-Ok-clause-quiet : goal.returns-in-Ok-clause-quiet
returns-in-Ok-clause-quiet g c outside =
    let i = c.self.inside in
    let m : NodeMachine = machine_of i.parts i.fills i.closed i.hand i.elements in
    let parts : Parts = record i.parts { history = c.room.new.history } in
    let same : machine_of parts i.fills i.closed i.hand i.elements ≡ m =
    reserved_same i.parts c.room.new.history i.fills i.closed i.hand i.elements c.room.ensures.entries c.room.ensures.moves c.room.ensures.taken in
    let ready : IsReady (machine_of parts i.fills i.closed i.hand i.elements) = subst IsReady (sym same) (c.self.invariant c.if-self.false) in
    let place : Place = record { bearer = c.args.bearer; number = c.args.number; fills = i.fills } in
    let old = g.F.Flash.chip c.args.flash.now in
    let new = g.F.Flash.chip c.handle.new.flash in
    let event : Event = c.args.event.now in
    let a = c.in-Ok.answered in
    let d = c.in-Ok.ensures.done in
    quiet_done c.ties_law.ensures.laws parts c.handle.new.parts event place old new a d i.closed i.hand i.elements ready outside

pub returns-in-Ok-clause-steps : goal.returns-in-Ok-clause-steps
returns-in-Ok-clause-steps g c w world =
    let i = c.self.inside in
    let m : NodeMachine = machine_of i.parts i.fills i.closed i.hand i.elements in
    let parts : Parts = record i.parts { history = c.room.new.history } in
    let same : machine_of parts i.fills i.closed i.hand i.elements ≡ m =
    reserved_same i.parts c.room.new.history i.fills i.closed i.hand i.elements c.room.ensures.entries c.room.ensures.moves c.room.ensures.taken in
    let ready : IsReady (machine_of parts i.fills i.closed i.hand i.elements) = subst IsReady (sym same) (c.self.invariant c.if-self.false) in
    let place : Place = record { bearer = c.args.bearer; number = c.args.number; fills = i.fills } in
    let old = g.F.Flash.chip c.args.flash.now in
    let new = g.F.Flash.chip c.handle.new.flash in
    let event : Event = c.args.event.now in
    let a = c.in-Ok.answered in
    let d = c.in-Ok.ensures.done in
    let p : Persist = i.parts.reserve.store.persist in
    let q : Persist = c.handle.new.parts.reserve.store.persist in
    let planned : IsPlanned ready.past event d.plan d.tables = d.asked.planned ready.past ready.before.standing in
    let meaning : IsMeaningOf (ready.past.records ++ d.plan.records) q = d.stored.value ready.past.records ready.before.standing.meaning in
    let insight : Insight = insight_in d.plan.basis in
    let records : d.plan.records ≡ stores node_layers ready.past event insight a.answer =
    planned.records ∙ ap (λ (x : Answer). stores node_layers ready.past event insight x) (sym d.answer) in
    let before : IsWorldOf w p p.mark = subst (λ (v : NodeMachine). IsWorldOf w v.reserve.store.persist v.reserve.store.persist.mark) (sym c.self.view_is) world in
    let stepped : HasStepped w p q event a.answer = record {
      past = ready.past;
      meaning = ready.before.standing.meaning;
      insight = insight;
      sees = planned.sees;
      answer_is = d.answer ∙ planned.answer;
      goes = c.event_law.ensures.steps w ready.past p q event insight a.answer before ready.before.standing.meaning ready.before.standing.ranges planned.sees (d.answer ∙ planned.answer)
          (subst (λ l. AreMoves (config_in p) l) records d.asked.moves)
          (subst (λ l. IsMeaningOf (ready.past.records ++ l) q) records meaning);
    } in
    subst (λ (v : NodeMachine). HasStepped w v.reserve.store.persist q event a.answer) c.self.view_is stepped

pub returns-in-Ok-clause-kept : goal.returns-in-Ok-clause-kept
returns-in-Ok-clause-kept g c first over stands =
    let i = c.self.inside in
    let m : NodeMachine = machine_of i.parts i.fills i.closed i.hand i.elements in
    let parts : Parts = record i.parts { history = c.room.new.history } in
    let same : machine_of parts i.fills i.closed i.hand i.elements ≡ m =
    reserved_same i.parts c.room.new.history i.fills i.closed i.hand i.elements c.room.ensures.entries c.room.ensures.moves c.room.ensures.taken in
    let place : Place = record { bearer = c.args.bearer; number = c.args.number; fills = i.fills } in
    let old = g.F.Flash.chip c.args.flash.now in
    let new = g.F.Flash.chip c.handle.new.flash in
    let event : Event = c.args.event.now in
    let a = c.in-Ok.answered in
    let d = c.in-Ok.ensures.done in
    stands_done c.ties_law.ensures.laws parts c.handle.new.parts event place old new a d i.closed i.hand i.elements first over
    (subst (λ (v : NodeMachine). Stands first old over v) (sym (same ∙ c.self.view_is)) stands) c.if-self.false c.handle.ensures.frame c.handle.ensures.unread

pub returns-in-Flash-clause-kept : goal.returns-in-Flash-clause-kept
returns-in-Flash-clause-kept g c first over stands =
    let i = c.self.inside in
    let m : NodeMachine = machine_of i.parts i.fills i.closed i.hand i.elements in
    let parts : Parts = record i.parts { history = c.room.new.history } in
    let same : machine_of parts i.fills i.closed i.hand i.elements ≡ m =
    reserved_same i.parts c.room.new.history i.fills i.closed i.hand i.elements c.room.ensures.entries c.room.ensures.moves c.room.ensures.taken in
    let old = g.F.Flash.chip c.args.flash.now in
    let new = g.F.Flash.chip c.handle.new.flash in
    let d = of_flash g.F.Flash.chip c.args.event.now parts c.handle.new.parts c.args.flash.now c.handle.new.flash c.in-Err.stop c.in-Err.ensures.stopped c.in-Flash.is in
    subst (λ (e : Event). Stands first new over (machine_of c.handle.new.parts i.fills true (H.OfEvent e) i.elements)) (sym c.of.ensures.value)
    (stands_stopped c.ties_law.ensures.laws parts c.handle.new.parts c.args.event.now old new d i.fills i.closed i.hand i.elements first over
    (subst (λ (v : NodeMachine). Stands first old over v) (sym (same ∙ c.self.view_is)) stands) c.if-self.false c.handle.ensures.frame c.handle.ensures.unread c.handle.ensures.once)

pub returns-in-Flash-clause-refused : goal.returns-in-Flash-clause-refused
returns-in-Flash-clause-refused g c =
    let i = c.self.inside in
    let m : NodeMachine = machine_of i.parts i.fills i.closed i.hand i.elements in
    let parts : Parts = record i.parts { history = c.room.new.history } in
    let same : machine_of parts i.fills i.closed i.hand i.elements ≡ m =
    reserved_same i.parts c.room.new.history i.fills i.closed i.hand i.elements c.room.ensures.entries c.room.ensures.moves c.room.ensures.taken in
    let old = g.F.Flash.chip c.args.flash.now in
    let new = g.F.Flash.chip c.handle.new.flash in
    let d = of_flash g.F.Flash.chip c.args.event.now parts c.handle.new.parts c.args.flash.now c.handle.new.flash c.in-Err.stop c.in-Err.ensures.stopped c.in-Flash.is in
    let closes = closes_stopped c.ties_law.ensures.laws parts c.handle.new.parts c.args.event.now old new d i.fills i.closed i.hand i.elements c.if-self.false in
    subst (λ (v : NodeMachine). Closes (H.OfEvent c.args.event.now) (shown v) (shown (machine_of c.handle.new.parts i.fills true (H.OfEvent c.of.result) i.elements)) old new) (same ∙ c.self.view_is)
    (subst (λ (e : Event). Closes (H.OfEvent c.args.event.now) (shown (machine_of parts i.fills i.closed i.hand i.elements)) (shown (machine_of c.handle.new.parts i.fills true (H.OfEvent e) i.elements)) old new)
    (sym c.of.ensures.value) closes)

pub returns-in-Memory-clause-refused : goal.returns-in-Memory-clause-refused
returns-in-Memory-clause-refused g c =
    let i = c.self.inside in
    let m : NodeMachine = machine_of i.parts i.fills i.closed i.hand i.elements in
    let parts : Parts = record i.parts { history = c.room.new.history } in
    let same : machine_of parts i.fills i.closed i.hand i.elements ≡ m =
    reserved_same i.parts c.room.new.history i.fills i.closed i.hand i.elements c.room.ensures.entries c.room.ensures.moves c.room.ensures.taken in
    let (before, flash) = of_memory g.F.Flash.chip c.args.event.now parts c.handle.new.parts c.args.flash.now c.handle.new.flash c.in-Err.stop c.in-Err.ensures.stopped c.in-Memory.is in
    let back : machine_of c.handle.new.parts i.fills i.closed i.hand i.elements ≡ c.args.self.now =
    same_parts parts c.handle.new.parts i.fills i.closed i.hand i.elements before ∙ same ∙ c.self.view_is in
    (ap (λ (v : NodeMachine). shown v) back, flash)

pub returns-in-Memory-clause-kept : goal.returns-in-Memory-clause-kept
returns-in-Memory-clause-kept g c first over stands =
    let i = c.self.inside in
    let m : NodeMachine = machine_of i.parts i.fills i.closed i.hand i.elements in
    let parts : Parts = record i.parts { history = c.room.new.history } in
    let same : machine_of parts i.fills i.closed i.hand i.elements ≡ m =
    reserved_same i.parts c.room.new.history i.fills i.closed i.hand i.elements c.room.ensures.entries c.room.ensures.moves c.room.ensures.taken in
    let (before, flash) = of_memory g.F.Flash.chip c.args.event.now parts c.handle.new.parts c.args.flash.now c.handle.new.flash c.in-Err.stop c.in-Err.ensures.stopped c.in-Memory.is in
    let back : machine_of c.handle.new.parts i.fills i.closed i.hand i.elements ≡ c.args.self.now =
    same_parts parts c.handle.new.parts i.fills i.closed i.hand i.elements before ∙ same ∙ c.self.view_is in
    subst (λ (v : NodeMachine). Stands first (g.F.Flash.chip c.handle.new.flash) over v) (sym back)
    (subst (λ (f : g.row.F.Denot). Stands first (g.F.Flash.chip f) over c.args.self.now) (sym flash) stands)

pub invariant_of-self-in-Memory : goal.invariant_of-self-in-Memory
invariant_of-self-in-Memory g c =
    let i = c.self.inside in
    let m : NodeMachine = machine_of i.parts i.fills i.closed i.hand i.elements in
    let parts : Parts = record i.parts { history = c.room.new.history } in
    let same : machine_of parts i.fills i.closed i.hand i.elements ≡ m =
    reserved_same i.parts c.room.new.history i.fills i.closed i.hand i.elements c.room.ensures.entries c.room.ensures.moves c.room.ensures.taken in
    let (before, flash) = of_memory g.F.Flash.chip c.args.event.now parts c.handle.new.parts c.args.flash.now c.handle.new.flash c.in-Err.stop c.in-Err.ensures.stopped c.in-Memory.is in
    let back : machine_of c.handle.new.parts i.fills i.closed i.hand i.elements ≡ c.args.self.now =
    same_parts parts c.handle.new.parts i.fills i.closed i.hand i.elements before ∙ same ∙ c.self.view_is in
    subst (λ (v : NodeMachine). IsSound v) (sym (same_parts parts c.handle.new.parts i.fills i.closed i.hand i.elements before ∙ same)) c.self.invariant

pub returns-in-Closed : goal.returns-in-Closed
returns-in-Closed g c =
    let i = c.self.inside in
    let m : NodeMachine = machine_of i.parts i.fills i.closed i.hand i.elements in
    let parts : Parts = record i.parts { history = c.room.new.history } in
    let same : machine_of parts i.fills i.closed i.hand i.elements ≡ m =
    reserved_same i.parts c.room.new.history i.fills i.closed i.hand i.elements c.room.ensures.entries c.room.ensures.moves c.room.ensures.taken in
    absurd (never_closed g.F.Flash.chip c.args.event.now parts c.handle.new.parts c.args.flash.now c.handle.new.flash c.in-Err.stop c.in-Err.ensures.stopped c.in-Closed.is)
