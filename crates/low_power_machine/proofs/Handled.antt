-- What was made of an event, as a machine shows it.
use Rattle.std.proofs.Common.{◌≡◌, ℕ, ◌+◌, ◌≤◌, ◌<◌, ◌^◌, true, false, List, [], ◌∷◌, ◌++◌, length, ap, sym, subst, ◌∙◌}
use Rattle.entry_log.specs.Log.{LogView}
use Rattle.event_definitions.specs.History.{Past}
use Rattle.event_records.specs.Putting.{ArePuttable}
use Rattle.flash_model.specs.Chip.{Chip, Keeps, count_of}
use Rattle.low_power_machine.proofs.Fitting.{fit_said}
use Rattle.low_power_machine.proofs.Kind.{ArePlans, IsEntryOf, event_ready, event_stands, event_stops}
use Rattle.low_power_machine.proofs.Recording.{record_changes}
use Rattle.low_power_machine.specs.Memory.{IsFitFor}
use Rattle.low_power_machine.specs.Parts.{machine_of}
use Rattle.low_power_machine.specs.Plans.{IsPlanned, records_by}
use Rattle.low_power_machine.specs.Views.{IsBefore, LowPowerNode, Stands, shown}
use Rattle.low_power_machine.specs.declared.memory.Memory.{Memory}
use Rattle.low_power_machine.specs.declared.plan.Plan.{Plan}
use Rattle.low_power_role.specs.Laws.{StateGoesOn}
use Rattle.low_power_role.specs.Role.{low_power_role}
use Rattle.low_power_role.specs.State.{state_of}
use Rattle.machine_contract.specs.Moves.{rises}
use Rattle.seq_word.specs.Seen.{last_word, went_to}
use Rattle.machine_contract.specs.Opening.{FlashFound}
use Rattle.machine_contract.specs.Refused.{Closes}
use Rattle.machine_contract.specs.Standing.{past_now}
use Rattle.machine_contract.specs.declared.answers.Hand.{Hand}
use Rattle.machine_contract.specs.declared.answers.Hand.TheVariants as H
use Rattle.machine_standing.specs.Kept.{KeptLaw}
use Rattle.machine_standing.specs.Ties.{IsCutIn, IsReadyBy, entered_by, stopped_by}
use Rattle.mesh_types.specs.declared.events.Event.{Event}
use Rattle.mesh_types.specs.declared.history.Entry.{Entry}
use Rattle.node_records.specs.Meaning.{IsMeaningOf}
use Rattle.node_records.specs.Tables.{config_in}
use Rattle.node_records.specs.declared.persist.Persist.{Persist}
use Rattle.node_store.specs.Tie.{IsFront, IsStoreOf}
use Rattle.node_store.specs.Writing.{Puts}
use Rattle.record_types.specs.declared.records.StoreRecord.{StoreRecord}
use Rattle.seq_reserve.specs.Reserving.{IsDurable, IsPublished}
use Rattle.seq_reserve.specs.declared.reserve.Reserve.{Reserve}
use Rattle.store_definitions.specs.Config.{Config}
use Rattle.store_definitions.specs.Wear.{CostsAndUses, CostsAtMost}

-- what a call says of a plan over the store's value in hand
pub plans_by : (m : LowPowerNode) (event : Event) (plan : Plan) (memory : Memory) (p : Persist) → p ≡ m.reserve.store.persist
    → ((past : Past) → IsMeaningOf past.records p → m.tables.lpn ≡ state_of past → IsPlanned past event plan memory.lpn)
    → ArePlans m event plan memory
plans_by m event plan memory p is h past meaning state = h past (subst (λ q. IsMeaningOf past.records q) (sym is) meaning) state

-- the machine with its entry
pub as_entered : (m : LowPowerNode) (r : Reserve) (memory : Memory) (log : LogView) (entry : Entry) → log.entries ≡ m.entries ++ entry ∷ []
    → log.moves ≡ m.moves ++ last_word (went_to r.keeper.advances) ∷ [] → log.taken ≡ m.taken
    → entered_by m r memory entry ≡ machine_of r memory log 0 m.closed m.hand m.elements
as_entered m r memory log entry entries moves taken =
    ap (λ (l : List Entry). record (entered_by m r memory entry) { entries = l }) (sym entries)
    ∙ ap (λ (l : List ℕ). record (entered_by m r memory entry) { entries = log.entries; moves = l }) (sym moves)
    ∙ ap (λ n. record (entered_by m r memory entry) { entries = log.entries; moves = log.moves; taken = n }) (sym taken)

-- the machine that was closed
pub as_stopped : (m : LowPowerNode) (r : Reserve) (memory : Memory) (log : LogView) (hand : Hand) → log.entries ≡ m.entries → log.moves ≡ m.moves → log.taken ≡ m.taken
    → stopped_by m r memory hand ≡ machine_of r memory log m.fills true hand m.elements
as_stopped m r memory log hand entries moves taken =
    ap (λ (l : List Entry). record (stopped_by m r memory hand) { entries = l }) (sym entries)
    ∙ ap (λ (l : List ℕ). record (stopped_by m r memory hand) { entries = log.entries; moves = l }) (sym moves)
    ∙ ap (λ n. record (stopped_by m r memory hand) { entries = log.entries; moves = log.moves; taken = n }) (sym taken)

-- An event was handled: the record of its plan was stored, and its entry appended.
pub record IsMade (m : LowPowerNode) (event : Event) (plan : Plan) (memory : Memory) (r : Reserve) (log : LogView) (entry : Entry) (before after : Chip) : Type 0 where
  pub plans : ArePlans m event plan memory
  pub may : ArePuttable m.reserve.store.persist (records_by plan.answer)
  pub puts : Puts (records_by plan.answer) before after m.reserve.store r.store
  pub is_entry : IsEntryOf event plan r.store.persist entry
  pub fills : entry.fills ≡ m.fills
  pub entries : log.entries ≡ m.entries ++ entry ∷ []
  pub moves : log.moves ≡ m.moves ++ last_word (went_to r.keeper.advances) ∷ []
  pub taken : log.taken ≡ m.taken
  pub published : IsPublished r.store r.keeper
  pub made : r.keeper.which ≡ m.reserve.keeper.which
  pub moved : went_to r.keeper.advances ≡ went_to m.reserve.keeper.advances ++ rises (config_in m.reserve.store.persist) (records_by plan.answer)
  pub fit : IsFitFor memory m.reserve.store.persist
  pub wear : CostsAndUses m.reserve.store.journal.used (length (records_by plan.answer)) (count_of before) (count_of after) r.store.journal.used

module _ (m : LowPowerNode) (event : Event) (plan : Plan) (memory : Memory) (r : Reserve) (log : LogView) (entry : Entry) (before after : Chip)
    (h : IsMade m event plan memory r log entry before after) where
  abbrev after_it : LowPowerNode
  after_it = machine_of r memory log 0 m.closed m.hand m.elements

  -- the invariant
  pub ready_made : KeptLaw → StateGoesOn → IsReadyBy IsBefore IsFitFor m → IsReadyBy IsBefore IsFitFor after_it
  ready_made law goes ready =
      let said : config_in r.store.persist ≡ config_in m.reserve.store.persist = h.puts.change ∙ record_changes (config_in m.reserve.store.persist) plan.answer in
      subst (IsReadyBy IsBefore IsFitFor) (as_entered m r memory log entry h.entries h.moves h.taken)
      (event_ready law goes m event plan memory h.plans h.may ready r entry h.is_entry (h.puts.value ready.past.records ready.before.node.meaning) h.published
      (fit_said memory m.reserve.store.persist r.store.persist said h.fit) h.puts.usable (ready.elements ∙ ap (λ (c : Config). c.elements) (sym said)))

  -- the tie to the flash
  pub stands_made : KeptLaw → StateGoesOn → (first : FlashFound) (over : List StoreRecord) → Stands first before over m → m.closed ≡ false → length m.entries + 1 < 2 ^ 32 → Keeps before after → after.reads ≡ before.reads → after.faults ≡ before.faults
      → Stands first after over after_it
  stands_made law goes first over s runs few keeps unread whole =
      let records : List StoreRecord = (past_now low_power_role over s.life.told m.fills).records in
      subst (λ (v : LowPowerNode). Stands first after over v) (as_entered m r memory log entry h.entries h.moves h.taken)
      (event_stands law goes m event plan memory h.plans h.may first before after over s runs r entry h.is_entry h.fills few
      (h.puts.kept records (s.usable runs).store) (h.puts.value records (s.usable runs).before.node.meaning) h.published h.moved keeps h.wear unread whole)

-- The flash failed while the record of its plan was stored.
module _ (law : KeptLaw) (goes : StateGoesOn) (m : LowPowerNode) (event : Event) (plan : Plan) (memory : Memory) (r : Reserve) (log : LogView) (before after : Chip)
    (plans : ArePlans m event plan memory) (may : ArePuttable m.reserve.store.persist (records_by plan.answer)) (entries : log.entries ≡ m.entries) (moves : log.moves ≡ m.moves) (taken : log.taken ≡ m.taken)
    (rose : before.faults < after.faults) where
  abbrev closed_by_it : LowPowerNode
  closed_by_it = machine_of r memory log m.fills true (H.OfEvent event) m.elements

  pub stands_closed : (first : FlashFound) (over : List StoreRecord) (s : Stands first before over m) → m.closed ≡ false → Keeps before after
      → ((records : List StoreRecord) → IsStoreOf before m.reserve.store records → (image : List ℕ) → after.images image → IsFront records (records_by plan.answer) image)
      → ((records : List StoreRecord) → IsStoreOf before m.reserve.store records → IsDurable after r.keeper.mark)
      → CostsAtMost m.reserve.store.journal.used (length (records_by plan.answer)) (count_of before) (count_of after) → after.reads ≡ before.reads → after.faults ≤ before.faults + 1
      → Stands first after over closed_by_it
  stands_closed first over s runs keeps fronts durable wear unread once =
      let records : List StoreRecord = (past_now low_power_role over s.life.told m.fills).records in
      let cut : IsCutIn after records (records_by plan.answer) r.keeper.mark = record {
        honest = keeps.honest ∙ s.life.node.honest;
        fronts = fronts records (s.usable runs).store;
        durable = durable records (s.usable runs).store;
      } in
      subst (λ (v : LowPowerNode). Stands first after over v) (as_stopped m r memory log (H.OfEvent event) entries moves taken)
      (event_stops law goes m event plan memory plans may first before after over s runs r cut rose keeps wear unread once)

  pub closes : m.closed ≡ false → r.keeper.which ≡ m.reserve.keeper.which → Closes (H.OfEvent event) (shown m) (shown closed_by_it) before after
  closes runs which = record {
    usable = runs;
    now = sym (ap shown (as_stopped m r memory log (H.OfEvent event) entries moves taken))
        ∙ ap (λ x. record (shown m) { which = x; closed = true; hand = H.OfEvent event; mark = r.keeper.mark }) which;
    faults = rose;
  }
