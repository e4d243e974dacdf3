-- A Low Power node is a kind of machine, and what an event leaves of it.
use Rattle.std.proofs.Common.{◌≡◌, ℕ, ◌+◌, ◌≤◌, ◌<◌, ◌^◌, true, false, List, [], ◌∷◌, ◌++◌, length, refl, ap, sym, subst, ◌∙◌, arith, true≢false, fold}
use Rattle.std.specs.List.{flat_map}
use Rattle.std.specs.Option.{option_to_list}
use Rattle.event_definitions.specs.History.{Insight, Past, Told}
use Rattle.event_records.specs.Putting.{ArePuttable}
use Rattle.flash_model.specs.Chip.{Chip, Keeps, Setting, count_of}
use Rattle.low_power_definitions.specs.State.{after, no_friend}
use Rattle.low_power_machine.proofs.Recording.{record_kept}
use Rattle.low_power_machine.specs.Memory.{IsFitFor}
use Rattle.low_power_machine.specs.Plans.{IsPlanned, records_by}
use Rattle.low_power_machine.specs.Views.{IsBefore, LowPowerNode, Stands}
use Rattle.low_power_machine.specs.declared.memory.Memory.{Memory}
use Rattle.low_power_machine.specs.declared.plan.Plan.{Plan}
use Rattle.low_power_role.specs.Laws.{StateGoesOn}
use Rattle.low_power_role.specs.Role.{jobs_of, jobs_under, low_power_role, stores}
use Rattle.low_power_role.specs.State.{event_calls, life_state, state_of}
use Rattle.machine_contract.specs.Moves.{rises}
use Rattle.seq_word.specs.Seen.{went_to}
use Rattle.machine_contract.specs.Opening.{FlashFound}
use Rattle.machine_contract.specs.Standing.{past_now}
use Rattle.machine_contract.specs.declared.answers.Hand.TheVariants as H
use Rattle.machine_standing.proofs.Fronts.{IsSameNode, all_ranges, all_whole, kept_node_of}
use Rattle.machine_standing.proofs.Standings.{entered_stands, entry_handles, past_with, stopped_stands, told_by}
use Rattle.machine_standing.specs.Kept.{AreKept, KeptLaw}
use Rattle.machine_standing.specs.Ties.{IsCutIn, IsKind, IsNodeStore, IsReadyBy, entered_by, opened_by, stopped_by}
use Rattle.mesh_base.specs.declared.address.Address.{Address}
use Rattle.mesh_types.specs.declared.events.Event.{Event}
use Rattle.mesh_types.specs.declared.events.Event.TheVariants as E
use Rattle.mesh_types.specs.declared.history.Entry.{Entry}
use Rattle.node_records.specs.Meaning.{IsMeaningOf}
use Rattle.node_records.specs.Tables.{config_in}
use Rattle.node_records.specs.declared.persist.Persist.{Persist}
use Rattle.node_store.specs.Tie.{IsStoreOf}
use Rattle.record_types.specs.declared.records.StoreRecord.{StoreRecord}
use Rattle.run_definitions.specs.Order.{is_outside}
use Rattle.seq_reserve.specs.Reserving.{IsPublished}
use Rattle.seq_reserve.specs.declared.reserve.Reserve.{Reserve}
use Rattle.store_definitions.specs.Config.{Config, config_of}
use Rattle.store_definitions.specs.Wear.{CostsAndUses, CostsAtMost}

-- an event that follows a line stores nothing
stores_inside : (past : Past) (event : Event) (insight : Insight) → is_outside event ≡ false → low_power_role.stores past event insight (low_power_role.answer past event insight) ≡ []
unfolding stores
stores_inside past (E.Net octets) insight e = absurd (true≢false e)
stores_inside past _ insight e = refl

-- the state goes by the address and the number of elements
same_state : (told : List Told) (c d : Config) → IsSameNode c d → life_state d.unicast d.elements told ≡ life_state c.unicast c.elements told
same_state told c d same = ap (λ (own : Address). life_state own d.elements told) same.unicast ∙ ap (λ n. life_state c.unicast n told) same.elements

kept_store : KeptLaw → (past : Past) (p q : Persist) (records : List StoreRecord) → IsNodeStore past.records p → AreKept (config_of past.records) records
    → IsMeaningOf (past.records ++ records) q → IsNodeStore (past.records ++ records) q
kept_store law past p q records h kept meaning = record {
  meaning = meaning;
  ranges = all_ranges past.records records kept h.ranges;
  whole = all_whole law past.records records kept h.whole;
}

pub low_power_kind : KeptLaw → IsKind low_power_role IsBefore
low_power_kind law = record {
  whole = law;
  said = λ past m h. h.node;
  inside = stores_inside;
  refilled = λ past m r kept meaning h. record {
    node = kept_store law past m.reserve.store.persist r.store.persist _ h.node kept meaning;
    state = h.state ∙ sym (same_state past.told (config_of past.records) _ (kept_node_of past.records _ kept));
  };
}

pub before_taken : (past : Past) (m : LowPowerNode) (n : ℕ) → IsBefore past m → IsBefore past (record m { taken = n })
before_taken past m n h = record { node = h.node; state = h.state }

-- what stands before the first event of a life
pub opened_before : (over : List StoreRecord) (r : Reserve) (memory : Memory) (elements : ℕ) → IsNodeStore over r.store.persist
    → memory.lpn ≡ no_friend r.store.persist.unicast r.store.persist.elements
    → IsBefore (record { told = []; records = over }) (opened_by r memory elements)
opened_before over r memory elements node is = record {
  node = node;
  state = is ∙ ap (λ (c : Config). no_friend c.unicast c.elements) node.meaning.config;
}

-- what the plan of an event says of each past that the machine stands for
abbrev pub ArePlans : LowPowerNode → Event → Plan → Memory → Type 0
ArePlans m event plan memory =
    (past : Past) → IsMeaningOf past.records m.reserve.store.persist → m.tables.lpn ≡ state_of past → IsPlanned past event plan memory.lpn

-- the entry of a plan
pub record IsEntryOf (event : Event) (plan : Plan) (p : Persist) (entry : Entry) : Type 0 where
  pub is_of : entry.event ≡ event
  pub has : entry.answer ≡ plan.answer
  pub jobs : entry.jobs ≡ flat_map (jobs_under (config_in p)) (option_to_list plan.job)

module _ (law : KeptLaw) (goes : StateGoesOn) (m : LowPowerNode) (event : Event) (plan : Plan) (memory : Memory) (plans : ArePlans m event plan memory)
    (may : ArePuttable m.reserve.store.persist (records_by plan.answer)) where
  module _ (past : Past) (h : IsBefore past m) where
    planned : IsPlanned past event plan memory.lpn
    planned = plans past h.node.meaning h.state

    kept : AreKept (config_of past.records) (records_by plan.answer)
    kept = subst (λ c. AreKept c (records_by plan.answer)) h.node.meaning.config (record_kept m.reserve.store.persist plan.answer may)

    -- what stands before the next event
    before_more : (r : Reserve) (entry : Entry) → IsEntryOf event plan r.store.persist entry → IsMeaningOf (past.records ++ records_by plan.answer) r.store.persist
        → IsBefore (past_with past entry planned.insight (records_by plan.answer)) (entered_by m r memory entry)
    before_more r entry e meaning =
        let t : Told = told_by past entry planned.insight in
        let c : Config = config_of past.records in
        let calls : event_calls event planned.insight plan.answer ≡ event_calls entry.event planned.insight entry.answer =
        ap (λ x. event_calls x planned.insight plan.answer) (sym e.is_of) ∙ ap (λ a. event_calls entry.event planned.insight a) (sym e.has) in
        record {
          node = kept_store law past m.reserve.store.persist r.store.persist (records_by plan.answer) h.node kept meaning;
          state = planned.state ∙ ap (λ l. fold after (state_of past) l) calls ∙ sym (goes c.unicast c.elements past.told t)
              ∙ sym (same_state (past.told ++ t ∷ []) c (config_of (past.records ++ records_by plan.answer)) (kept_node_of past.records (records_by plan.answer) kept));
        }

    jobs_are : (c : Config) → flat_map (jobs_under c) (option_to_list plan.job) ≡ low_power_role.jobs past c event planned.insight plan.answer
    unfolding jobs_of
    jobs_are c = ap (λ l. flat_map (jobs_under c) l) planned.job

  -- where its record was stored
  pub event_stands : (first : FlashFound) (old new : Chip) (over : List StoreRecord) (s : Stands first old over m) → m.closed ≡ false → (r : Reserve) (entry : Entry)
      → IsEntryOf event plan r.store.persist entry → entry.fills ≡ m.fills → length m.entries + 1 < 2 ^ 32
      → IsStoreOf new r.store ((past_now low_power_role over s.life.told m.fills).records ++ records_by plan.answer)
      → IsMeaningOf ((past_now low_power_role over s.life.told m.fills).records ++ records_by plan.answer) r.store.persist
      → IsPublished r.store r.keeper
      → went_to r.keeper.advances ≡ went_to m.reserve.keeper.advances ++ rises (config_in m.reserve.store.persist) (records_by plan.answer)
      → Keeps old new → CostsAndUses m.reserve.store.journal.used (length (records_by plan.answer)) (count_of old) (count_of new) r.store.journal.used → new.reads ≡ old.reads → new.faults ≡ old.faults
      → Stands first new over (entered_by m r memory entry)
  event_stands first old new over s runs r entry e fills few store meaning published moved keeps wear unread whole =
      let past : Past = past_now low_power_role over s.life.told m.fills in
      let h : IsBefore past m = (s.usable runs).before in
      let x : IsPlanned past event plan memory.lpn = planned past h in
      entered_stands low_power_role IsBefore (low_power_kind law) first old new over m s runs r memory entry x.insight (records_by plan.answer) fills
      (entry_handles low_power_role past event x.insight plan.answer (records_by plan.answer) (config_in r.store.persist) entry x.sees x.answer x.records meaning.config e.is_of e.has
      (e.jobs ∙ jobs_are past h (config_in r.store.persist)))
      (x.records ∙ ap (λ y. low_power_role.stores past y x.insight plan.answer) (sym e.is_of) ∙ ap (λ a. low_power_role.stores past entry.event x.insight a) (sym e.has))
      (before_more past h r entry e meaning) few store published
      (moved ∙ ap (λ (c : Config). went_to m.reserve.keeper.advances ++ rises c (records_by plan.answer)) h.node.meaning.config)
      (omega (arith, s.began, keeps.later, ap (λ (y : Setting). y.faults) keeps.setting)) wear unread whole

  -- where the flash failed
  pub event_stops : (first : FlashFound) (old new : Chip) (over : List StoreRecord) (s : Stands first old over m) → m.closed ≡ false → (r : Reserve)
      → IsCutIn new (past_now low_power_role over s.life.told m.fills).records (records_by plan.answer) r.keeper.mark
      → old.faults < new.faults → Keeps old new → CostsAtMost m.reserve.store.journal.used (length (records_by plan.answer)) (count_of old) (count_of new) → new.reads ≡ old.reads → new.faults ≤ old.faults + 1
      → Stands first new over (stopped_by m r memory (H.OfEvent event))
  event_stops first old new over s runs r cut rose keeps wear unread once =
      let past : Past = past_now low_power_role over s.life.told m.fills in
      let h : IsBefore past m = (s.usable runs).before in
      let x : IsPlanned past event plan memory.lpn = planned past h in
      stopped_stands low_power_role IsBefore (low_power_kind law) first old new over m s runs r memory event x.insight (records_by plan.answer) x.sees
      (x.records ∙ ap (λ a. low_power_role.stores past event x.insight a) x.answer)
      (kept past h) cut
      (omega (arith, s.began, rose, ap (λ (y : Setting). y.faults) keeps.setting)) wear unread once

  -- the invariant
  pub event_ready : (ready : IsReadyBy IsBefore IsFitFor m) (r : Reserve) (entry : Entry) → IsEntryOf event plan r.store.persist entry
      → IsMeaningOf (ready.past.records ++ records_by plan.answer) r.store.persist → IsPublished r.store r.keeper
      → IsFitFor memory r.store.persist → r.store.journal.closed ≡ false → m.elements ≡ r.store.persist.elements
      → IsReadyBy IsBefore IsFitFor (entered_by m r memory entry)
  event_ready ready r entry e meaning published fit usable elements = record {
    past = past_with ready.past entry (planned ready.past ready.before).insight (records_by plan.answer);
    before = before_more ready.past ready.before r entry e meaning;
    published = published;
    fit = fit;
    usable = usable;
    elements = elements;
    paid = omega arith;
  }
