-- What follows for a machine of the plan of an event, and of what was made of it.
use Rattle.std.proofs.Common.{◌≡◌, inl, ℕ, ◌+◌, ◌-◌, ◌≤◌, ◌<◌, ◌^◌, Bool, true, false, List, [], ◌∷◌, ◌++◌, fold, length, refl, ap, sym, subst, ◌∙◌, append-nil, arith, Option}
use Rattle.std.proofs.lemmas.List.Sums.{fold-append}
use Rattle.std.specs.Prelude.{All}
use Rattle.entry_log.specs.Log.{LogView}
use Rattle.event_plans.specs.Basis as B
use Rattle.event_plans.specs.Basis.{Plan}
use Rattle.event_plans.specs.Memory.{IsFitFor, NodeTablesView}
use Rattle.event_plans.specs.Plans.{IsPlanned, IsSomePlan, IsStanding, LeavesConfig, insight_in, of_own}
use Rattle.event_plans.specs.Sending.{IsOwn, IsSendable}
use Rattle.event_records.specs.Putting.{AreMoves, ArePuttable}
use Rattle.flash_model.specs.Chip.{Chip, Keeps, count_of}
use Rattle.layer_laws.specs.Laws.{IsWithinLimits}
use Rattle.machine_contract.specs.Moves.{rises}
use Rattle.seq_word.specs.Seen.{last_word, went_to}
use Rattle.mesh_base.specs.declared.beacon.Beacon.{Beacon}
use Rattle.machine_contract.specs.Opening.{FlashFound}
use Rattle.machine_contract.specs.Ranges.{IsEvent, IsJob, IsQuiet}
use Rattle.machine_contract.specs.Refused.{Closes}
use Rattle.machine_contract.specs.View.{entry_for, with_entry}
use Rattle.machine_contract.specs.Standing.{past_now}
use Rattle.machine_contract.specs.declared.answers.Answered.{Answered}
use Rattle.machine_contract.specs.declared.answers.Hand.{Hand}
use Rattle.machine_contract.specs.declared.answers.Hand.TheVariants as H
use Rattle.machine_contract.specs.declared.answers.Stop.{Stop}
use Rattle.machine_contract.specs.declared.answers.Stop.TheVariants as S
use Rattle.machine_ties.proofs.Events.{IsAfter, IsEntryOf, event_after, event_jobs, event_node_over, event_quiet, event_ready, event_sendable, event_stands, event_stops, plan_kept, plan_leaves, ready_after}
use Rattle.machine_standing.proofs.Fronts.{IsSameNode, all_whole}
use Rattle.machine_standing.specs.Kept.{AreKept}
use Rattle.machine_standing.specs.Ties.{IsCutIn}
use Rattle.machine_ties.specs.Kept.{AreKeeping, IsBounded}
use Rattle.machine_ties.specs.Ties.{IsOver, IsReady, Stands, entered, stopped}
use Rattle.machine_ties.specs.Views.{NodeMachine, shown}
use Rattle.mesh_machine.proofs.Within.{within_after}
use Rattle.mesh_hearing.specs.Tables.{IsFit}
use Rattle.mesh_machine.specs.Handling.{AreAsBefore, AreHalted, AreStored, IsActed, IsAsked, IsCutShort, IsDone, IsStopped, IsTurnOf, machine_of, planned_parts}
use Rattle.machine_standing.specs.declared.entering.Place.{Place}
use Rattle.mesh_machine.specs.declared.parts.Parts.{Parts}
use Rattle.mesh_reading.specs.Held.{AreHeldKeys}
use Rattle.mesh_types.specs.declared.events.Event.{Event}
use Rattle.mesh_types.specs.declared.events.Event.TheVariants as E
use Rattle.mesh_types.specs.declared.history.Entry.{Entry}
use Rattle.mesh_types.specs.declared.jobs.Job.{Job}
use Rattle.node_layers.specs.NodeLayers.{node_layers}
use Rattle.node_models.specs.Models.{AreWithin, ModelsView, StayWithin}
use Rattle.node_records.specs.Meaning.{IsMeaningOf}
use Rattle.node_records.specs.Tables.{config_in}
use Rattle.node_records.specs.declared.persist.Persist.{Persist}
use Rattle.record_types.specs.declared.records.StoreRecord.{StoreRecord}
use Rattle.event_definitions.specs.Answers.{config_before}
use Rattle.event_definitions.specs.History.{OfNothing, Past}
use Rattle.event_definitions.specs.Jobs.{jobs_of}
use Rattle.event_definitions.specs.Role.{node_role}
use Rattle.node_store.specs.Tie.{IsStoreOf}
use Rattle.run_definitions.specs.Order.{is_outside}
use Rattle.seq_reserve.specs.Reserving.{IsPublished}
use Rattle.seq_reserve.specs.declared.reserve.Reserve.{Reserve}
use Rattle.store_definitions.specs.Config.{Config, changed, config_of, no_config}
use Rattle.store_definitions.specs.Node.{IsWhole}
use Rattle.store_definitions.proofs.Wear.{paid_none}
use Rattle.store_definitions.specs.Wear.{CostsAndUses}

-- The plan of an event.

-- what a call says of a plan over the store's value in hand
pub asked_by : (old : Parts) (event : Event) (plan : Plan) (tables : NodeTablesView) (p : Persist) → p ≡ old.reserve.store.persist
    → ((past : Past) → IsStanding past p old.tables → IsPlanned past event plan tables)
    → ArePuttable p plan.records → AreMoves (config_in p) plan.records → IsBounded old.reserve.store.persist (insight_in plan.basis) → IsFitFor tables p
    → IsAsked old event plan tables
asked_by old event plan tables p is planned may moves bounded fit = record {
  planned = λ past s. planned past (subst (λ (x : Persist). IsStanding past x old.tables) (sym is) s);
  may = subst (λ (x : Persist). ArePuttable x plan.records) is may;
  moves = subst (λ (x : Persist). AreMoves (config_in x) plan.records) is moves;
  bounded = bounded;
  fit = subst (λ (x : Persist). IsFitFor tables x) is fit;
}

-- what the types of values say of one that read no octets, and of one that read a beacon
pub own_bounded : (p : Persist) → IsWithinLimits (config_in p) → IsBounded p OfNothing
own_bounded p h = record { limits = h; octets = tt }

pub beacon_bounded : (p : Persist) (reset : Bool) (beacon : Option Beacon) → IsWithinLimits (config_in p) → IsBounded p (insight_in (B.Beacon reset beacon))
beacon_bounded p true beacon h = record { limits = h; octets = tt }
beacon_bounded p false beacon h = record { limits = h; octets = tt }

module _ (laws : AreKeeping) (old : Parts) (event : Event) (turn : IsTurnOf old event) (plan : Plan) (tables : NodeTablesView) (asked : IsAsked old event plan tables) where
  abbrev turn_machine : NodeMachine
  turn_machine = machine_of old turn.fills turn.closed turn.hand turn.elements

  planned_now : IsPlanned turn.ready.past event plan tables
  planned_now = asked.planned turn.ready.past turn.ready.before.standing

  pub some_plan : IsSomePlan event plan
  some_plan = (turn.ready.past, (tables, planned_now))

  -- what the records leave says keys that may be held
  pub asked_keys : ((records : List StoreRecord) → IsWhole (config_of records) → AreHeldKeys (config_of records)) → (q : Persist)
      → config_in q ≡ fold changed (config_in old.reserve.store.persist) plan.records → AreHeldKeys (config_in q)
  asked_keys held q is =
      let past : Past = turn.ready.past in
      let kept : AreKept (config_of past.records) plan.records = plan_kept laws past turn_machine event plan tables turn.ready.before planned_now asked.may asked.bounded in
      let said : config_in q ≡ config_of (past.records ++ plan.records) =
      is ∙ ap (λ c. fold changed c plan.records) turn.ready.before.standing.meaning.config ∙ sym (fold-append changed no_config past.records plan.records) in
      subst AreHeldKeys (sym said) (held (past.records ++ plan.records) (all_whole laws.whole past.records plan.records kept turn.ready.before.standing.whole))

  pub asked_after : (q : Persist) → IsMeaningOf (turn.ready.past.records ++ plan.records) q → IsAfter turn.elements q
  asked_after q meaning = event_after laws turn_machine event plan tables turn.ready q planned_now asked.may asked.bounded meaning

  pub asked_unicast : (q : Persist) → IsMeaningOf (turn.ready.past.records ++ plan.records) q → q.unicast.0 < 2 ^ 15
  asked_unicast q meaning =
      let after : IsAfter turn.elements q = asked_after q meaning in
      omega (arith, after.unicast, after.whole.some)

-- an event that may be given can be sent
pub turn_sendable : (old : Parts) (event : Event) (turn : IsTurnOf old event) → IsSendable (config_in old.reserve.store.persist) event
turn_sendable old event turn =
    event_sendable turn.elements event old.reserve.store.persist (ready_after (machine_of old turn.fills turn.closed turn.hand turn.elements) turn.ready) turn.given

-- one that brings neither octets heard nor time
pub own_left : (event : Event) → ((octets : List ℕ) → event ≡ E.Net octets → ⊥) → ((octets : List ℕ) → event ≡ E.Bcn octets → ⊥)
    → ((ticks : ℕ) → event ≡ E.Tick ticks → ⊥) → IsOwn event
own_left (E.Net octets) net bcn tick = absurd (net octets refl)
own_left (E.Bcn octets) net bcn tick = absurd (bcn octets refl)
own_left (E.Tick ticks) net bcn tick = absurd (tick ticks refl)
own_left _ net bcn tick = tt

-- What was made of it.

abbrev pub entry_of : Place → Event → Answered → Entry
entry_of place event a =
    record { bearer = place.bearer; number = place.number; event = event; fills = place.fills; answer = a.answer; jobs = a.jobs }

pub done_by : (old stored : Parts) (log : LogView) (event : Event) (place : Place) (before after : Chip) (a : Answered) (plan : Plan) (tables : NodeTablesView)
    → IsAsked old event plan tables → AreStored plan.records (planned_parts old tables) stored before after → stored.history ≡ old.history
    → (e : Event) → e ≡ event
    → log.entries ≡ stored.history.entries ++ entry_of place e a ∷ []
    → log.moves ≡ stored.history.moves ++ last_word (went_to stored.reserve.keeper.advances) ∷ [] → log.taken ≡ stored.history.taken → a.at ≡ length stored.history.entries
    → a.answer ≡ plan.answer → length old.history.entries < 2 ^ 32 - 1
    → (p : Persist) → p ≡ stored.reserve.store.persist → (jobs : List Job) → a.jobs ≡ jobs
    → ((past : Past) → IsPlanned past event plan tables → (config_in p).unicast ≡ (config_before past).unicast
    → LeavesConfig plan.answer (config_before past) (config_in p) → jobs ≡ jobs_of node_layers past (config_in p) event (insight_in plan.basis) plan.answer)
    → IsDone old (record stored { history = log }) event place before after a
done_by old stored log event place before after a plan tables asked st same e is entries moves taken among answer few p now jobs made f = record {
  plan = plan;
  tables = tables;
  asked = asked;
  stored = record {
    usable = st.usable;
    value = st.value;
    kept = st.kept;
    no_fault = st.no_fault;
    published = st.published;
    made = st.made;
    moved = st.moved;
    risen = st.risen;
    keys = st.keys;
    tables = st.tables;
    models = st.models;
    wear = st.wear;
  };
  answer = answer;
  jobs = λ past standing planned unicast leaves. made ∙ subst (λ (q : Persist). jobs ≡ jobs_of node_layers past (config_in q) event (insight_in plan.basis) plan.answer) now
      (f past planned (subst (λ (q : Persist). (config_in q).unicast ≡ (config_before past).unicast) (sym now) unicast)
      (subst (λ (q : Persist). LeavesConfig plan.answer (config_before past) (config_in q)) (sym now) leaves));
  entry = entries ∙ ap (λ (h : LogView). h.entries ++ entry_of place e a ∷ []) same ∙ ap (λ (x : Event). old.history.entries ++ entry_of place x a ∷ []) is;
  moves = moves ∙ ap (λ (h : LogView). h.moves ++ last_word (went_to stored.reserve.keeper.advances) ∷ []) same;
  taken = taken ∙ ap (λ (h : LogView). h.taken) same;
  among = among ∙ ap (λ (h : LogView). length h.entries) same;
  few = omega (arith, few);
}

-- Where no records were stored, whatever the flash.
pub nothing_stored : (old new : Parts) (event : Event) (turn : IsTurnOf old event) → IsFit new.tables.hearing old.reserve.store.persist → new.reserve ≡ old.reserve
    → (chip : Chip) → AreStored [] (planned_parts old new.tables) new chip chip
nothing_stored old new event turn fit same chip = record {
  usable = subst (λ (r : Reserve). r.store.journal.closed ≡ false) (sym same) turn.ready.usable;
  value = λ records h. subst (λ (r : Reserve). IsMeaningOf (records ++ []) r.store.persist) (sym same)
      (subst (λ (l : List StoreRecord). IsMeaningOf l old.reserve.store.persist) (sym (append-nil records)) h);
  kept = λ records h. subst (λ (r : Reserve). IsStoreOf chip r.store (records ++ [])) (sym same)
      (subst (λ (l : List StoreRecord). IsStoreOf chip old.reserve.store l) (sym (append-nil records)) h);
  no_fault = refl;
  published = subst (λ (r : Reserve). IsPublished r.store r.keeper) (sym same) turn.ready.published;
  made = ap (λ (r : Reserve). r.keeper.which) same;
  moved = ap (λ (r : Reserve). went_to r.keeper.advances) same ∙ sym (append-nil (went_to old.reserve.keeper.advances));
  risen = inl (ap (λ (r : Reserve). r.keeper) same);
  keys = subst (λ (r : Reserve). IsFit new.tables.hearing r.store.persist) (sym same) fit;
  tables = λ past h. h;
  models = refl;
  wear = subst (λ (r : Reserve). CostsAndUses old.reserve.store.journal.used 0 (count_of chip) (count_of chip) r.store.journal.used) (sym same)
      (paid_none old.reserve.store.journal.used (count_of chip));
}

pub acted_done : (old new : Parts) (event : Event) (turn : IsTurnOf old event) (place : Place) (a : Answered) → IsActed old new event place a → (chip : Chip)
    → IsDone old new event place chip chip a
acted_done old new event turn place a d chip = record {
  plan = of_own d.plan;
  tables = new.tables;
  asked = d.asked;
  stored = nothing_stored old new event turn d.asked.fit.keys d.reserve chip;
  answer = d.answer;
  jobs = λ past standing planned unicast leaves.
      subst (λ (r : Reserve). a.jobs ≡ jobs_of node_layers past (config_in r.store.persist) event OfNothing d.plan.answer) (sym d.reserve) (d.jobs past planned);
  entry = d.entry;
  moves = d.moves;
  taken = d.taken;
  among = d.among;
  few = d.few;
}

-- the flash failed while its records were stored
pub cut_by : (old new : Parts) (event : Event) (before after : Chip) (plan : Plan) (tables : NodeTablesView)
    → IsAsked old event plan tables → AreHalted plan.records (planned_parts old tables) new before after → new.history ≡ old.history
    → IsCutShort old new event before after
cut_by old new event before after plan tables asked halted same = record {
  plan = plan;
  tables = tables;
  asked = asked;
  halted = halted;
  entries = ap (λ (h : LogView). h.entries) same;
  moves = ap (λ (h : LogView). h.moves) same;
  taken = ap (λ (h : LogView). h.taken) same;
}

-- An event that was handled.

module _ (laws : AreKeeping) (old new : Parts) (event : Event) (place : Place) (before after : Chip) (a : Answered)
    (d : IsDone old new event place before after a) (closed : Bool) (hand : Hand) (elements : ℕ) where
  abbrev machine : NodeMachine
  machine = machine_of old place.fills closed hand elements

  abbrev entry : Entry
  entry = record { bearer = place.bearer; number = place.number; event = event; fills = place.fills; answer = a.answer; jobs = a.jobs }

  abbrev now_after : NodeMachine
  now_after = machine_of new 0 closed hand elements

  abbrev moved_last : ℕ
  moved_last = last_word (went_to new.reserve.keeper.advances)

  as_now : entered machine new.reserve new.tables entry ≡ now_after
  as_now = ap (λ (l : List Entry). record (entered machine new.reserve new.tables entry) { entries = l }) (sym d.entry)
      ∙ ap (λ (l : List ℕ). record (entered machine new.reserve new.tables entry) { entries = new.history.entries; moves = l }) (sym d.moves)
      ∙ ap (λ n. record (entered machine new.reserve new.tables entry) { entries = new.history.entries; moves = new.history.moves; taken = n }) (sym d.taken)

  abbrev q : Persist
  q = new.reserve.store.persist

  module _ (ready : IsReady machine) where
    planned : IsPlanned ready.past event d.plan d.tables
    planned = d.asked.planned ready.past ready.before.standing

    meaning : IsMeaningOf (ready.past.records ++ d.plan.records) q
    meaning = d.stored.value ready.past.records ready.before.standing.meaning

    node : IsSameNode (config_before ready.past) (config_in q)
    node = event_node_over laws machine event d.plan d.tables ready.past q ready.before planned d.asked.may d.asked.bounded meaning

    jobs_are : a.jobs ≡ jobs_of node_layers ready.past (config_in q) event (insight_in d.plan.basis) d.plan.answer
    jobs_are = d.jobs ready.past ready.before.standing planned node.unicast (plan_leaves ready.past event d.plan d.tables q planned meaning)

    -- the invariant
    pub ready_done : StayWithin → IsReady now_after
    ready_done stay =
        let is_after : IsAfter elements q = event_after laws machine event d.plan d.tables ready q planned d.asked.may d.asked.bounded meaning in
        let within : AreWithin new.tables.models q = subst (λ (v : ModelsView). AreWithin v q) (sym d.stored.models)
        (within_after stay d.tables.models ready.past old.reserve.store.persist q ready.before.standing.meaning node d.asked.fit.models) in
        subst IsReady as_now
        (event_ready laws machine event d.plan d.tables ready new.reserve new.tables entry planned d.asked.may d.asked.bounded d.stored.tables refl d.answer
        meaning d.stored.published (record { keys = d.stored.keys; models = within }) d.stored.usable is_after.same)

    -- the jobs
    pub jobs_done : IsEvent elements event → All (IsJob event) a.jobs
    jobs_done e =
        event_jobs laws machine event d.plan d.tables ready q a.jobs elements planned d.asked.may d.asked.bounded meaning jobs_are e

    pub quiet_done : is_outside event ≡ false → All IsQuiet a.jobs
    quiet_done e = event_quiet laws machine event d.plan d.tables ready q a.jobs jobs_are e

  -- what is shown
  pub shown_done : shown now_after ≡ with_entry (shown machine) (entry_for (shown machine) place.bearer place.number event a.answer a.jobs) moved_last (shown now_after).mark
  shown_done =
      ap (λ (l : List Entry). record (shown now_after) { entries = l }) d.entry
      ∙ ap (λ (l : List ℕ). record (shown now_after) { entries = old.history.entries ++ entry ∷ []; moves = l }) d.moves
      ∙ ap (λ n. record (shown now_after) { entries = old.history.entries ++ entry ∷ []; moves = old.history.moves ++ moved_last ∷ []; taken = n }) d.taken
      ∙ ap (λ x. record (shown now_after) { entries = old.history.entries ++ entry ∷ []; moves = old.history.moves ++ moved_last ∷ []; taken = old.history.taken; which = x }) d.stored.made

  -- the tie to the flash
  pub stands_done : (first : FlashFound) (over : List StoreRecord) → Stands first before over machine → closed ≡ false → Keeps before after → after.reads ≡ before.reads
      → Stands first after over now_after
  stands_done first over s runs keeps unread =
      let past : Past = past_now (node_role node_layers) over s.life.told place.fills in
      let h : IsOver before past machine = s.usable runs in
      let planned : IsPlanned past event d.plan d.tables = d.asked.planned past h.before.standing in
      let meaning : IsMeaningOf (past.records ++ d.plan.records) q = d.stored.value past.records h.before.standing.meaning in
      let node : IsSameNode (config_before past) (config_in q) =
      event_node_over laws machine event d.plan d.tables past q h.before planned d.asked.may d.asked.bounded meaning in
      let is_entry : IsEntryOf past event d.plan q entry = record {
        is_of = refl;
        has = d.answer;
        jobs = d.jobs past h.before.standing planned node.unicast (plan_leaves past event d.plan d.tables q planned meaning);
      } in
      subst (λ (v : NodeMachine). Stands first after over v) as_now
      (event_stands laws machine event d.plan d.tables first before after over s runs new.reserve new.tables entry planned d.asked.may d.asked.bounded
      d.stored.tables is_entry refl d.few (d.stored.kept past.records h.store) meaning d.stored.published
      (d.stored.moved ∙ ap (λ (x : Config). went_to old.reserve.keeper.advances ++ rises x d.plan.records) h.before.standing.meaning.config) keeps d.stored.wear unread d.stored.no_fault)

-- An event at which the flash failed.

module _ (laws : AreKeeping) (old new : Parts) (event : Event) (before after : Chip)
    (d : IsCutShort old new event before after) (fills : ℕ) (closed : Bool) (hand : Hand) (elements : ℕ) where
  abbrev cut_machine : NodeMachine
  cut_machine = machine_of old fills closed hand elements

  pub stopped_now : stopped cut_machine new.reserve new.tables (H.OfEvent event) ≡ machine_of new fills true (H.OfEvent event) elements
  stopped_now = ap (λ (l : List Entry). record (stopped cut_machine new.reserve new.tables (H.OfEvent event)) { entries = l }) (sym d.entries)
      ∙ ap (λ (l : List ℕ). record (stopped cut_machine new.reserve new.tables (H.OfEvent event)) { entries = new.history.entries; moves = l }) (sym d.moves)
      ∙ ap (λ n. record (stopped cut_machine new.reserve new.tables (H.OfEvent event)) { entries = new.history.entries; moves = new.history.moves; taken = n }) (sym d.taken)

  pub stands_stopped : (first : FlashFound) (over : List StoreRecord) → Stands first before over cut_machine → closed ≡ false → Keeps before after → after.reads ≡ before.reads → after.faults ≤ before.faults + 1
      → Stands first after over (machine_of new fills true (H.OfEvent event) elements)
  stands_stopped first over s runs keeps unread once =
      let past : Past = past_now (node_role node_layers) over s.life.told fills in
      let h : IsOver before past cut_machine = s.usable runs in
      let planned : IsPlanned past event d.plan d.tables = d.asked.planned past h.before.standing in
      let cut : IsCutIn after past.records d.plan.records new.reserve.keeper.mark = record {
        honest = keeps.honest ∙ s.life.node.honest;
        fronts = d.halted.fronts past.records h.store;
        durable = d.halted.durable past.records h.store;
      } in
      subst (λ (v : NodeMachine). Stands first after over v) stopped_now
      (event_stops laws cut_machine event d.plan d.tables first before after over s runs new.reserve new.tables planned d.asked.may d.asked.bounded cut d.halted.rose keeps d.halted.wear unread once)

  -- what is shown
  pub closes_stopped : closed ≡ false → Closes (H.OfEvent event) (shown cut_machine) (shown (machine_of new fills true (H.OfEvent event) elements)) before after
  closes_stopped runs = record {
    usable = runs;
    now = sym (ap shown stopped_now)
        ∙ ap (λ x. record (shown cut_machine) { which = x; closed = true; hand = H.OfEvent event; mark = new.reserve.keeper.mark }) d.halted.made;
    faults = d.halted.rose;
  }

pub of_flash : {F : Type 0} (chip : F → Chip) (event : Event) (old new : Parts) (before after : F) (stop : Stop) → IsStopped chip event old new before after stop
    → stop ≡ S.Flash → IsCutShort old new event (chip before) (chip after)
of_flash chip event old new before after stop h is = subst (λ (x : Stop). IsStopped chip event old new before after x) is h

-- memory ran out
pub of_memory : {F : Type 0} (chip : F → Chip) (event : Event) (old new : Parts) (before after : F) (stop : Stop) → IsStopped chip event old new before after stop
    → stop ≡ S.Memory → AreAsBefore old new × (after ≡ before)
of_memory chip event old new before after stop h is = subst (λ (x : Stop). IsStopped chip event old new before after x) is h

pub never_closed : {F : Type 0} (chip : F → Chip) (event : Event) (old new : Parts) (before after : F) (stop : Stop) → IsStopped chip event old new before after stop
    → stop ≡ S.Closed → ⊥
never_closed chip event old new before after stop h is = subst (λ (x : Stop). IsStopped chip event old new before after x) is h

pub same_parts : (old new : Parts) (fills : ℕ) (closed : Bool) (hand : Hand) (elements : ℕ) → AreAsBefore old new
    → machine_of new fills closed hand elements ≡ machine_of old fills closed hand elements
same_parts old new fills closed hand elements b =
    ap (λ (r : Reserve). machine_of (record new { reserve = r }) fills closed hand elements) b.reserve
    ∙ ap (λ (t : NodeTablesView). machine_of (record new { reserve = old.reserve; tables = t }) fills closed hand elements) b.tables
    ∙ ap (λ (l : LogView). machine_of (record new { reserve = old.reserve; tables = old.tables; history = l }) fills closed hand elements) b.history

-- Room for an entry leaves a machine as it was.
pub reserved_same : (parts : Parts) (log : LogView) (fills : ℕ) (closed : Bool) (hand : Hand) (elements : ℕ) → log.entries ≡ parts.history.entries → log.moves ≡ parts.history.moves
    → log.taken ≡ parts.history.taken
    → machine_of (record parts { history = log }) fills closed hand elements ≡ machine_of parts fills closed hand elements
reserved_same parts log fills closed hand elements entries moves taken =
    ap (λ (l : List Entry). record (machine_of parts fills closed hand elements) { entries = l; moves = log.moves; taken = log.taken }) entries
    ∙ ap (λ (l : List ℕ). record (machine_of parts fills closed hand elements) { moves = l; taken = log.taken }) moves
    ∙ ap (λ n. record (machine_of parts fills closed hand elements) { taken = n }) taken
