use Rattle.std.proofs.Common.{◌≡◌, ◌⊎◌, ℕ, ◌+◌, ◌-◌, ◌<◌, ◌^◌, true, List, [], ◌∷◌, ◌++◌, length, refl, ap, sym, subst, ◌∙◌, arith}
use Rattle.std.specs.Prelude.{All}
use Rattle.std.specs.List.{flat_map}
use Rattle.std.specs.Option.{option_to_list}
use Rattle.entry_log.specs.Log.{LogView}
use Rattle.event_records.specs.Asked.{AreAskedFor}
use Rattle.event_records.specs.Putting.{AreMoves, ArePuttable}
use Rattle.flash_model.specs.Chip.{count_of}
use Rattle.low_power_machine.proofs.Accepts.{place_of_answer, seq_of_answer}
use Rattle.low_power_machine.proofs.Handled.{IsMade, closes, plans_by, ready_made, stands_closed, stands_made}
use Rattle.low_power_machine.proofs.Kind.{ArePlans}
use Rattle.low_power_machine.proofs.Recording.{records_are}
use Rattle.low_power_machine.proofs.Short.{job_short}
use Rattle.low_power_machine.specs.Memory.{IsFitFor}
use Rattle.low_power_machine.specs.Parts.{machine_of}
use Rattle.low_power_machine.specs.Plans.{IsPlanned, records_by}
use Rattle.low_power_machine.specs.Views.{IsBefore, LowPowerNode, Stands, shown}
use Rattle.low_power_machine.specs.declared.memory.Memory.{Memory}
use Rattle.low_power_machine.specs.declared.plan.Plan.{Plan}
use Rattle.low_power_role.specs.Role.{jobs_under}
use Rattle.low_power_role.specs.State.{event_calls, state_of}
use Rattle.machine_contract.specs.Moves.{rises}
use Rattle.seq_word.specs.Seen.{KeeperView, last_word, went_to}
use Rattle.machine_contract.specs.Ranges.{IsJob}
use Rattle.machine_contract.specs.Refused.{Closes}
use Rattle.machine_contract.specs.declared.answers.Answered.{Answered}
use Rattle.machine_contract.specs.declared.answers.Hand.TheVariants as H
use Rattle.machine_standing.proofs.Moved.{advances_are, risen_so}
use Rattle.machine_standing.specs.Ties.{IsReadyBy}
use Rattle.mesh_types.specs.declared.events.Event.{Event}
use Rattle.mesh_types.specs.declared.history.Entry.{Entry}
use Rattle.mesh_types.specs.declared.jobs.Job.{Job}
use Rattle.node_records.specs.Tables.{config_in}
use Rattle.node_records.specs.declared.persist.Persist.{Persist}
use Rattle.node_store.specs.Tie.{IsFront}
use Rattle.node_store.specs.Writing.{Puts}
use Rattle.record_types.specs.declared.records.StoreRecord.{StoreRecord}
use Rattle.seq_reserve.specs.declared.reserve.Reserve.{Reserve}
use Rattle.store_definitions.specs.Wear.{CostsAndUses, CostsAtMost}
use Rattle.low_power_machine.proofs.state.LowPowerState.handle_event.Goals as goal

pub heard_records-records-requires : goal.heard_records-records-requires
heard_records-records-requires g c =
    let i = c.self.inside in
    let m : LowPowerNode = machine_of i.reserve i.memory i.history i.fills i.closed i.hand i.elements in
    let ready : IsReadyBy IsBefore IsFitFor m = c.self.invariant c.if-self.false in
    let event : Event = c.args.event.now in
    let plans : ArePlans m event c.plan-plan.result c.plan-plan.new.memory = plans_by m event c.plan-plan.result c.plan-plan.new.memory c.persist.result.now c.persist.ensures.value c.plan-plan.ensures.planned in
    let x = plans ready.past ready.before.node.meaning ready.before.state in
    seq_of_answer ready.past event x.insight c.plan-plan.result.answer x.sees x.answer

pub store_records-requires-clause-may : goal.store_records-requires-clause-may
store_records-requires-clause-may g c =
    let i = c.self.inside in
    let m : LowPowerNode = machine_of i.reserve i.memory i.history i.fills i.closed i.hand i.elements in
    let ready : IsReadyBy IsBefore IsFitFor m = c.self.invariant c.if-self.false in
    let event : Event = c.args.event.now in
    let plans : ArePlans m event c.plan-plan.result c.plan-plan.new.memory = plans_by m event c.plan-plan.result c.plan-plan.new.memory c.persist.result.now c.persist.ensures.value c.plan-plan.ensures.planned in
    let x = plans ready.past ready.before.node.meaning ready.before.state in
    c.heard_records-records.ensures.may i.reserve.store.persist (place_of_answer ready.past i.reserve.store.persist event x.insight c.plan-plan.result.answer ready.before.node.meaning x.sees x.answer)
    (λ q is. subst (λ (l : List StoreRecord). ArePuttable q l) (sym c.new.ensures.value) tt)

pub store_records-requires-clause-moves : goal.store_records-requires-clause-moves
store_records-requires-clause-moves g c =
    c.heard_records-records.ensures.moves (config_in c.self.inside.reserve.store.persist)
    (subst (λ (l : List StoreRecord). AreMoves (config_in c.self.inside.reserve.store.persist) l) (sym c.new.ensures.value) tt)

pub jobs_of-jobs-requires-clause-short : goal.jobs_of-jobs-requires-clause-short
jobs_of-jobs-requires-clause-short g c =
    let i = c.self.inside in
    let m : LowPowerNode = machine_of i.reserve i.memory i.history i.fills i.closed i.hand i.elements in
    let ready : IsReadyBy IsBefore IsFitFor m = c.self.invariant c.if-self.false in
    let event : Event = c.args.event.now in
    let plans : ArePlans m event c.plan-plan.result c.plan-plan.new.memory = plans_by m event c.plan-plan.result c.plan-plan.new.memory c.persist.result.now c.persist.ensures.value c.plan-plan.ensures.planned in
    let x = plans ready.past ready.before.node.meaning ready.before.state in
    job_short (state_of ready.past) (event_calls event x.insight c.plan-plan.result.answer) c.plan-plan.result.job x.job

pub invariant_of-self-2 : goal.invariant_of-self-2
invariant_of-self-2 g c e =
    let i = c.self.inside in
    let m : LowPowerNode = machine_of i.reserve i.memory i.history i.fills i.closed i.hand i.elements in
    let event : Event = c.args.event.now in
    let plan : Plan = c.plan-plan.result in
    let memory : Memory = c.plan-plan.new.memory in
    let old = g.F.Flash.chip c.args.flash.now in
    let new = g.F.Flash.chip c.store_records.new.flash in
    let r : Reserve = c.store_records.new.reserve in
    let ready : IsReadyBy IsBefore IsFitFor m = c.self.invariant c.if-self.false in
    let plans : ArePlans m event plan memory = plans_by m event plan memory c.persist.result.now c.persist.ensures.value c.plan-plan.ensures.planned in
    let x : IsPlanned ready.past event plan memory.lpn = plans ready.past ready.before.node.meaning ready.before.state in
    let records : c.heard_records-records.result ≡ records_by plan.answer =
    records_are plan.answer c.heard_records-records.result (λ layers past octets insight asked.
    c.heard_records-records.ensures.value layers past octets insight (subst (λ (l : List StoreRecord). AreAskedFor layers past insight plan.answer l) (sym c.new.ensures.value) asked)) in
    let may : ArePuttable i.reserve.store.persist (records_by plan.answer) =
    subst (λ (l : List StoreRecord). ArePuttable i.reserve.store.persist l) records
    (c.heard_records-records.ensures.may i.reserve.store.persist (place_of_answer ready.past i.reserve.store.persist event x.insight plan.answer ready.before.node.meaning x.sees x.answer)
    (λ q is. subst (λ (l : List StoreRecord). ArePuttable q l) (sym c.new.ensures.value) tt)) in
    let log : LogView = c.enter-answered.new.history in
    let a : Answered = c.enter-answered.result in
    let entry : Entry = record { bearer = c.args.bearer; number = c.args.number; event = event; fills = i.fills; answer = a.answer; jobs = a.jobs } in
    let made : IsMade m event plan memory r log entry old new = record {
      plans = plans;
      may = may;
      puts = subst (λ (l : List StoreRecord). Puts l old new i.reserve.store r.store) records (c.in-Ok.ensures.puts ready.usable);
      is_entry = record {
        is_of = refl;
        has = c.enter-answered.ensures.answer;
        jobs = c.enter-answered.ensures.jobs ∙ c.jobs_of-jobs.ensures.value ∙ ap (λ (p : Persist). flat_map (jobs_under (config_in p)) (option_to_list plan.job)) c.persist-2.ensures.value;
      };
      fills = refl;
      entries = c.enter-answered.ensures.entry ∙ ap (λ (l : List Entry). l ++ entry ∷ []) c.room.ensures.entries;
      moves = c.enter-answered.ensures.moves ∙ ap (λ (l : List ℕ). l ++ last_word (went_to r.keeper.advances) ∷ []) c.room.ensures.moves;
      taken = c.enter-answered.ensures.taken ∙ c.room.ensures.taken;
      published = c.store_records.ensures.published;
      made = c.store_records.ensures.made;
      moved = c.in-Ok.ensures.advanced ∙ ap (λ l. went_to i.reserve.keeper.advances ++ l) (advances_are (config_in i.reserve.store.persist) c.heard_records-records.result)
          ∙ ap (λ (l : List StoreRecord). went_to i.reserve.keeper.advances ++ rises (config_in i.reserve.store.persist) l) records;
      fit = subst (λ (p : Persist). IsFitFor memory p) c.persist.ensures.value c.plan-plan.ensures.fit;
      wear = subst (λ (l : List StoreRecord). CostsAndUses i.reserve.store.journal.used (length l) (count_of old) (count_of new) r.store.journal.used) records (c.in-Ok.ensures.wear ready.usable);
    } in
    ready_made m event plan memory r log entry old new made c.node_law.ensures.kept c.low_power_state_law.ensures.goes_on ready

pub returns-clause-risen : goal.returns-clause-risen
returns-clause-risen g c =
    let k : KeeperView = c.store_records.new.reserve.keeper in
    subst (λ (v : LowPowerNode). ((k.advances ≡ v.reserve.keeper.advances) × (k.mark ≡ v.reserve.keeper.mark)) ⊎ (k.mark ≡ last_word (went_to k.advances))) c.self.view_is
    (risen_so c.self.inside.reserve.keeper k c.in-Ok.ensures.risen)

pub returns-clause-jobs : goal.returns-clause-jobs
returns-clause-jobs g c =
    let i = c.self.inside in
    let m : LowPowerNode = machine_of i.reserve i.memory i.history i.fills i.closed i.hand i.elements in
    let event : Event = c.args.event.now in
    let plan : Plan = c.plan-plan.result in
    let memory : Memory = c.plan-plan.new.memory in
    let old = g.F.Flash.chip c.args.flash.now in
    let new = g.F.Flash.chip c.store_records.new.flash in
    let r : Reserve = c.store_records.new.reserve in
    let ready : IsReadyBy IsBefore IsFitFor m = c.self.invariant c.if-self.false in
    let plans : ArePlans m event plan memory = plans_by m event plan memory c.persist.result.now c.persist.ensures.value c.plan-plan.ensures.planned in
    let x : IsPlanned ready.past event plan memory.lpn = plans ready.past ready.before.node.meaning ready.before.state in
    let records : c.heard_records-records.result ≡ records_by plan.answer =
    records_are plan.answer c.heard_records-records.result (λ layers past octets insight asked.
    c.heard_records-records.ensures.value layers past octets insight (subst (λ (l : List StoreRecord). AreAskedFor layers past insight plan.answer l) (sym c.new.ensures.value) asked)) in
    let may : ArePuttable i.reserve.store.persist (records_by plan.answer) =
    subst (λ (l : List StoreRecord). ArePuttable i.reserve.store.persist l) records
    (c.heard_records-records.ensures.may i.reserve.store.persist (place_of_answer ready.past i.reserve.store.persist event x.insight plan.answer ready.before.node.meaning x.sees x.answer)
    (λ q is. subst (λ (l : List StoreRecord). ArePuttable q l) (sym c.new.ensures.value) tt)) in
    subst (λ (l : List Job). All (IsJob event) l) (sym c.enter-answered.ensures.jobs) (c.jobs_of-jobs.ensures.jobs event)

pub returns-clause-kept : goal.returns-clause-kept
returns-clause-kept g c first over stands =
    let i = c.self.inside in
    let m : LowPowerNode = machine_of i.reserve i.memory i.history i.fills i.closed i.hand i.elements in
    let event : Event = c.args.event.now in
    let plan : Plan = c.plan-plan.result in
    let memory : Memory = c.plan-plan.new.memory in
    let old = g.F.Flash.chip c.args.flash.now in
    let new = g.F.Flash.chip c.store_records.new.flash in
    let r : Reserve = c.store_records.new.reserve in
    let ready : IsReadyBy IsBefore IsFitFor m = c.self.invariant c.if-self.false in
    let plans : ArePlans m event plan memory = plans_by m event plan memory c.persist.result.now c.persist.ensures.value c.plan-plan.ensures.planned in
    let x : IsPlanned ready.past event plan memory.lpn = plans ready.past ready.before.node.meaning ready.before.state in
    let records : c.heard_records-records.result ≡ records_by plan.answer =
    records_are plan.answer c.heard_records-records.result (λ layers past octets insight asked.
    c.heard_records-records.ensures.value layers past octets insight (subst (λ (l : List StoreRecord). AreAskedFor layers past insight plan.answer l) (sym c.new.ensures.value) asked)) in
    let may : ArePuttable i.reserve.store.persist (records_by plan.answer) =
    subst (λ (l : List StoreRecord). ArePuttable i.reserve.store.persist l) records
    (c.heard_records-records.ensures.may i.reserve.store.persist (place_of_answer ready.past i.reserve.store.persist event x.insight plan.answer ready.before.node.meaning x.sees x.answer)
    (λ q is. subst (λ (l : List StoreRecord). ArePuttable q l) (sym c.new.ensures.value) tt)) in
    let log : LogView = c.enter-answered.new.history in
    let a : Answered = c.enter-answered.result in
    let entry : Entry = record { bearer = c.args.bearer; number = c.args.number; event = event; fills = i.fills; answer = a.answer; jobs = a.jobs } in
    let made : IsMade m event plan memory r log entry old new = record {
      plans = plans;
      may = may;
      puts = subst (λ (l : List StoreRecord). Puts l old new i.reserve.store r.store) records (c.in-Ok.ensures.puts ready.usable);
      is_entry = record {
        is_of = refl;
        has = c.enter-answered.ensures.answer;
        jobs = c.enter-answered.ensures.jobs ∙ c.jobs_of-jobs.ensures.value ∙ ap (λ (p : Persist). flat_map (jobs_under (config_in p)) (option_to_list plan.job)) c.persist-2.ensures.value;
      };
      fills = refl;
      entries = c.enter-answered.ensures.entry ∙ ap (λ (l : List Entry). l ++ entry ∷ []) c.room.ensures.entries;
      moves = c.enter-answered.ensures.moves ∙ ap (λ (l : List ℕ). l ++ last_word (went_to r.keeper.advances) ∷ []) c.room.ensures.moves;
      taken = c.enter-answered.ensures.taken ∙ c.room.ensures.taken;
      published = c.store_records.ensures.published;
      made = c.store_records.ensures.made;
      moved = c.in-Ok.ensures.advanced ∙ ap (λ l. went_to i.reserve.keeper.advances ++ l) (advances_are (config_in i.reserve.store.persist) c.heard_records-records.result)
          ∙ ap (λ (l : List StoreRecord). went_to i.reserve.keeper.advances ++ rises (config_in i.reserve.store.persist) l) records;
      fit = subst (λ (p : Persist). IsFitFor memory p) c.persist.ensures.value c.plan-plan.ensures.fit;
      wear = subst (λ (l : List StoreRecord). CostsAndUses i.reserve.store.journal.used (length l) (count_of old) (count_of new) r.store.journal.used) records (c.in-Ok.ensures.wear ready.usable);
    } in
    let few : length i.history.entries < 2 ^ 32 - 1 = subst (λ (l : List Entry). length l < 2 ^ 32 - 1) c.room.ensures.entries c.in_ok-draft.ensures.few in
    stands_made m event plan memory r log entry old new made c.node_law.ensures.kept c.low_power_state_law.ensures.goes_on first over
    (subst (λ (v : LowPowerNode). Stands first old over v) (sym c.self.view_is) stands) c.if-self.false (omega (arith, few)) c.store_records.ensures.leaves.frame c.store_records.ensures.leaves.reads c.in-Ok.ensures.leaves.no_fault

pub returns-in-Err-clause-refused : goal.returns-in-Err-clause-refused
returns-in-Err-clause-refused g c =
    let i = c.self.inside in
    let m : LowPowerNode = machine_of i.reserve i.memory i.history i.fills i.closed i.hand i.elements in
    let event : Event = c.args.event.now in
    let plan : Plan = c.plan-plan.result in
    let memory : Memory = c.plan-plan.new.memory in
    let old = g.F.Flash.chip c.args.flash.now in
    let new = g.F.Flash.chip c.store_records.new.flash in
    let r : Reserve = c.store_records.new.reserve in
    let ready : IsReadyBy IsBefore IsFitFor m = c.self.invariant c.if-self.false in
    let plans : ArePlans m event plan memory = plans_by m event plan memory c.persist.result.now c.persist.ensures.value c.plan-plan.ensures.planned in
    let x : IsPlanned ready.past event plan memory.lpn = plans ready.past ready.before.node.meaning ready.before.state in
    let records : c.heard_records-records.result ≡ records_by plan.answer =
    records_are plan.answer c.heard_records-records.result (λ layers past octets insight asked.
    c.heard_records-records.ensures.value layers past octets insight (subst (λ (l : List StoreRecord). AreAskedFor layers past insight plan.answer l) (sym c.new.ensures.value) asked)) in
    let may : ArePuttable i.reserve.store.persist (records_by plan.answer) =
    subst (λ (l : List StoreRecord). ArePuttable i.reserve.store.persist l) records
    (c.heard_records-records.ensures.may i.reserve.store.persist (place_of_answer ready.past i.reserve.store.persist event x.insight plan.answer ready.before.node.meaning x.sees x.answer)
    (λ q is. subst (λ (l : List StoreRecord). ArePuttable q l) (sym c.new.ensures.value) tt)) in
    let rose : old.faults < new.faults = (c.in-Err.ensures.fails ready.usable).cause.rose in
    let log : LogView = c.room.new.history in
    subst (λ (v : LowPowerNode). Closes (H.OfEvent event) (shown v) (shown (machine_of r memory log i.fills true (H.OfEvent c.of.result) i.elements)) old new) c.self.view_is
    (subst (λ (e : Event). Closes (H.OfEvent event) (shown m) (shown (machine_of r memory log i.fills true (H.OfEvent e) i.elements)) old new) (sym c.of.ensures.value)
    (closes c.node_law.ensures.kept c.low_power_state_law.ensures.goes_on m event plan memory r log old new plans may c.room.ensures.entries c.room.ensures.moves c.room.ensures.taken rose c.if-self.false c.store_records.ensures.made))

pub returns-in-Err-clause-kept : goal.returns-in-Err-clause-kept
returns-in-Err-clause-kept g c first over stands =
    let i = c.self.inside in
    let m : LowPowerNode = machine_of i.reserve i.memory i.history i.fills i.closed i.hand i.elements in
    let event : Event = c.args.event.now in
    let plan : Plan = c.plan-plan.result in
    let memory : Memory = c.plan-plan.new.memory in
    let old = g.F.Flash.chip c.args.flash.now in
    let new = g.F.Flash.chip c.store_records.new.flash in
    let r : Reserve = c.store_records.new.reserve in
    let ready : IsReadyBy IsBefore IsFitFor m = c.self.invariant c.if-self.false in
    let plans : ArePlans m event plan memory = plans_by m event plan memory c.persist.result.now c.persist.ensures.value c.plan-plan.ensures.planned in
    let x : IsPlanned ready.past event plan memory.lpn = plans ready.past ready.before.node.meaning ready.before.state in
    let records : c.heard_records-records.result ≡ records_by plan.answer =
    records_are plan.answer c.heard_records-records.result (λ layers past octets insight asked.
    c.heard_records-records.ensures.value layers past octets insight (subst (λ (l : List StoreRecord). AreAskedFor layers past insight plan.answer l) (sym c.new.ensures.value) asked)) in
    let may : ArePuttable i.reserve.store.persist (records_by plan.answer) =
    subst (λ (l : List StoreRecord). ArePuttable i.reserve.store.persist l) records
    (c.heard_records-records.ensures.may i.reserve.store.persist (place_of_answer ready.past i.reserve.store.persist event x.insight plan.answer ready.before.node.meaning x.sees x.answer)
    (λ q is. subst (λ (l : List StoreRecord). ArePuttable q l) (sym c.new.ensures.value) tt)) in
    let rose : old.faults < new.faults = (c.in-Err.ensures.fails ready.usable).cause.rose in
    let log : LogView = c.room.new.history in
    subst (λ (e : Event). Stands first new over (machine_of r memory log i.fills true (H.OfEvent e) i.elements)) (sym c.of.ensures.value)
    (stands_closed c.node_law.ensures.kept c.low_power_state_law.ensures.goes_on m event plan memory r log old new plans may c.room.ensures.entries c.room.ensures.moves c.room.ensures.taken rose first over
    (subst (λ (v : LowPowerNode). Stands first old over v) (sym c.self.view_is) stands) c.if-self.false c.store_records.ensures.leaves.frame
    (λ before held image is. subst (λ (l : List StoreRecord). IsFront before l image) records (c.store_records.ensures.fronts before held image is)) c.store_records.ensures.durable
    (subst (λ (l : List StoreRecord). CostsAtMost i.reserve.store.journal.used (length l) (count_of old) (count_of new)) records c.store_records.ensures.most_wear) c.store_records.ensures.leaves.reads c.store_records.ensures.leaves.once)
