-- What an event that was planned leaves, whether its records were stored or not.
use Rattle.std.proofs.Common.{◌≡◌, ℕ, ◌+◌, ◌≤◌, ◌<◌, ◌^◌, Bool, true, false, cond, List, ◌++◌, length, refl, ap, sym, subst, ◌∙◌, append-nil, arith, None}
use Rattle.std.specs.Prelude.{All}
use Rattle.std.specs.List.{AllByRecursion as Every}
use Rattle.std.proofs.lemmas.List.Elements.{recursion_from_All}
use Rattle.event_plans.proofs.Narrow.{narrow_of}
use Rattle.event_plans.specs.Memory.{AreNodeTablesOf, IsFitFor, NodeTablesView}
use Rattle.event_plans.specs.Plans.{IsBasisOf, IsPlanned, LeavesConfig, insight_in}
use Rattle.event_plans.specs.Sending.{IsSendable}
use Rattle.event_plans.specs.Basis as B
use Rattle.event_plans.specs.Basis.{Basis, Plan}
use Rattle.event_records.specs.Putting.{ArePuttable}
use Rattle.flash_model.specs.Chip.{Chip, Keeps, Setting, count_of}
use Rattle.layer_laws.specs.Laws.{IsWithinLimits}
use Rattle.machine_contract.specs.Moves.{rises}
use Rattle.seq_word.specs.Seen.{went_to}
use Rattle.machine_contract.specs.Opening.{FlashFound}
use Rattle.machine_contract.specs.Ranges.{IsEvent, IsJob, IsQuiet}
use Rattle.machine_contract.specs.Standing.{past_now}
use Rattle.machine_contract.specs.declared.answers.Hand.TheVariants as H
use Rattle.machine_ties.proofs.Acks.{IsShortTold}
use Rattle.machine_ties.proofs.Acts.{has_act}
use Rattle.machine_ties.proofs.Asked.{HasActs, HasRounds, jobs_quiet, jobs_ranged}
use Rattle.machine_standing.proofs.Fronts.{IsSameNode, all_ranges, all_whole, kept_node_of, puttable_kept}
use Rattle.machine_standing.proofs.Standings.{entered_stands, entry_handles, stopped_stands, told_by}
use Rattle.machine_standing.specs.Kept.{AreKept, KeepWhole}
use Rattle.machine_standing.specs.Ties.{IsCutIn}
use Rattle.mesh_base.proofs.Every.{every_map}
use Rattle.machine_ties.proofs.Standings.{before_more, node_kind}
use Rattle.machine_ties.proofs.Stored.{stores_keep}
use Rattle.machine_ties.specs.Kept.{AreKeeping, IsBounded}
use Rattle.machine_ties.specs.Ties.{IsBefore, IsReady, Stands, entered, stopped}
use Rattle.machine_ties.specs.Views.{NodeMachine}
use Rattle.mesh_types.specs.declared.answers.Answer.{Answer}
use Rattle.mesh_types.specs.declared.answers.Answer.TheVariants as A
use Rattle.mesh_types.specs.declared.events.Event.{Event}
use Rattle.mesh_types.specs.declared.events.Event.TheVariants as E
use Rattle.mesh_types.specs.declared.history.Entry.{Entry}
use Rattle.mesh_types.specs.declared.jobs.Job.{Job}
use Rattle.node_layers.specs.NodeLayers.{node_layers}
use Rattle.node_layers.specs.Steps.{with_entry}
use Rattle.node_records.specs.Meaning.{IsMeaningOf}
use Rattle.node_records.specs.Tables.{config_in}
use Rattle.node_records.specs.declared.persist.Persist.{Persist}
use Rattle.node_snapshot.proofs.Built.{IsPublishRow, built_of}
use Rattle.node_store.specs.Tie.{IsStoreOf}
use Rattle.record_types.specs.declared.records.StoreRecord.{StoreRecord}
use Rattle.record_types.specs.declared.records.StoreRecord.TheVariants as R
use Rattle.event_definitions.specs.Answers.{answer_of, config_before, later}
use Rattle.event_definitions.specs.Handling.{Handles}
use Rattle.event_definitions.specs.History.{Insight, OfNothing, Past, Told}
use Rattle.event_definitions.specs.Jobs.{jobs_of}
use Rattle.run_definitions.specs.Order.{is_outside}
use Rattle.event_definitions.specs.Readings.{Sees}
use Rattle.event_definitions.specs.Stores.{stores}
use Rattle.event_definitions.specs.Role.{node_role}
use Rattle.segment_sender.specs.Held.{IsHeldWell}
use Rattle.seq_reserve.specs.Reserving.{IsPublished}
use Rattle.seq_reserve.specs.declared.reserve.Reserve.{Reserve}
use Rattle.store_definitions.proofs.Pushes.{config_push}
use Rattle.store_definitions.specs.Config.{Config, changed, config_of}
use Rattle.store_definitions.specs.Node.{IsWhole}
use Rattle.store_definitions.specs.Ranges.{IsInRange}
use Rattle.store_definitions.specs.Wear.{CostsAndUses, CostsAtMost}

-- The records of a plan keep the node whole, and say no identity.
pub plan_kept : AreKeeping → (past : Past) (m : NodeMachine) (event : Event) (plan : Plan) (t : NodeTablesView) → IsBefore past m → IsPlanned past event plan t
    → ArePuttable m.reserve.store.persist plan.records → IsBounded m.reserve.store.persist (insight_in plan.basis) → AreKept (config_of past.records) plan.records
plan_kept laws past m event plan t h planned may bounded =
    let p = m.reserve.store.persist in
    let i = insight_in plan.basis in
    let stored : stores node_layers past event i (answer_of node_layers past event i) ≡ plan.records =
    ap (λ a. stores node_layers past event i a) (sym planned.answer) ∙ sym planned.records in
    let limits : IsWithinLimits (config_of past.records) = subst IsWithinLimits h.standing.meaning.config bounded.limits in
    let keep : KeepWhole (config_of past.records) plan.records =
    subst (λ l. KeepWhole (config_of past.records) l) stored (stores_keep laws past event i h.standing.whole limits bounded.octets) in
    subst (λ c. AreKept c plan.records) h.standing.meaning.config
    (puttable_kept p plan.records may (subst (λ c. KeepWhole c plan.records) (sym h.standing.meaning.config) keep))

-- An entry has the answer of its plan, and the jobs over what the store says then.
pub record IsEntryOf (past : Past) (event : Event) (plan : Plan) (p : Persist) (entry : Entry) : Type 0 where
  pub is_of : entry.event ≡ event
  pub has : entry.answer ≡ plan.answer
  pub jobs : entry.jobs ≡ jobs_of node_layers past (config_in p) event (insight_in plan.basis) plan.answer

plan_handles : (past : Past) (event : Event) (plan : Plan) (t : NodeTablesView) (p : Persist) (entry : Entry) → IsPlanned past event plan t → IsEntryOf past event plan p entry
    → IsMeaningOf (past.records ++ plan.records) p → Handles (node_role node_layers) past (told_by past entry (insight_in plan.basis))
plan_handles past event plan t p entry planned e meaning =
    entry_handles (node_role node_layers) past event (insight_in plan.basis) plan.answer plan.records (config_in p) entry planned.sees planned.answer planned.records
    meaning.config e.is_of e.has e.jobs

plan_stores : (past : Past) (event : Event) (plan : Plan) (t : NodeTablesView) (p : Persist) (entry : Entry) → IsPlanned past event plan t → IsEntryOf past event plan p entry
    → plan.records ≡ stores node_layers past entry.event (insight_in plan.basis) entry.answer
plan_stores past event plan t p entry planned e =
    planned.records ∙ ap (λ x. stores node_layers past x (insight_in plan.basis) plan.answer) (sym e.is_of)
    ∙ ap (λ a. stores node_layers past entry.event (insight_in plan.basis) a) (sym e.has)

-- what the store says after an event, and the elements of the node
pub record IsAfter (elements : ℕ) (p : Persist) : Type 0 where
  pub whole : IsWhole (config_in p)
  pub same : elements ≡ p.elements
  pub unicast : p.unicast.0 + p.elements ≤ 2 ^ 15

-- what the store says between two events
pub ready_after : (m : NodeMachine) → IsReady m → IsAfter m.elements m.reserve.store.persist
ready_after m ready =
    let whole : IsWhole (config_in m.reserve.store.persist) = subst IsWhole (sym ready.before.standing.meaning.config) ready.before.standing.whole in
    record { whole = whole; same = ready.elements; unicast = whole.last }

pub event_sendable : (elements : ℕ) (event : Event) (p : Persist) → IsAfter elements p → IsEvent elements event → IsSendable (config_in p) event
event_sendable elements (E.Send element dst ttl key payload) p after h = (omega (arith, h.0, after.same, after.unicast), h.3, h.5)
event_sendable elements (E.Begin m) p after h =
    record { least = h.4; seq = h.0; ttl = h.1; aid = h.2; device = h.3 }
event_sendable elements (E.Net octets) p after h = tt
event_sendable elements (E.Bcn octets) p after h = tt
event_sendable elements (E.Raw dst ttl tpdu) p after h = tt
event_sendable elements (E.Tick ticks) p after h = tt
event_sendable elements (E.Kept lpn fsn name pdu) p after h = tt
event_sendable elements (E.LowPower event) p after h = tt

-- where time was told, there was no Node Reset
told_running : (past : Past) (ticks now : ℕ) (i : Insight) → A.Ticked now ≡ answer_of node_layers past (E.Tick ticks) i → (config_before past).reset ≡ false
unfolding answer_of
told_running past ticks now i e = pick (config_before past).reset refl e
  where
    pick : (b : Bool) → (config_before past).reset ≡ b → A.Ticked now ≡ cond b A.Reset (A.Ticked (later past ticks)) → (config_before past).reset ≡ false
    pick true is e = absurd cc
    pick false is e = is

-- what sends a round is what the plan says
rounds_held : (past : Past) (event : Event) (basis : Basis) (a : Answer) → IsBasisOf past event a basis → a ≡ answer_of node_layers past event (insight_in basis)
    → HasRounds past event a
rounds_held past (E.Tick ticks) (B.Time t) (A.Ticked now) b is =
    let running = told_running past ticks now OfNothing is in
    recursion_from_All IsHeldWell _ (subst (All IsHeldWell) (b.1.due running (config_before past) refl).rounds b.1.held)
rounds_held past (E.Tick ticks) (B.Pdu heard) a b is = absurd b
rounds_held past (E.Tick ticks) (B.Beacon reset beacon) a b is = absurd b
rounds_held past (E.Tick ticks) (B.Own befriended) a b is = absurd b
rounds_held past _ basis a b is = tt

-- a control message leaves what the records say
control_leaves : (past : Past) (event : Event) (i : Insight) (a : Answer) (p : Persist) → IsMeaningOf (past.records ++ stores node_layers past event i a) p
    → LeavesConfig a (config_before past) (config_in p)
unfolding stores changed
control_leaves past (E.Net octets) i (A.Control name dst opcode params) p m = sym (m.config ∙ config_push past.records (R.Replay name None))
control_leaves past _ i (A.Control name dst opcode params) p m = sym (m.config ∙ ap config_of (append-nil past.records))
control_leaves past event i _ p m = tt

pub plan_leaves : (past : Past) (event : Event) (plan : Plan) (t : NodeTablesView) (p : Persist) → IsPlanned past event plan t
    → IsMeaningOf (past.records ++ plan.records) p → LeavesConfig plan.answer (config_before past) (config_in p)
plan_leaves past event plan t p planned meaning =
    control_leaves past event (insight_in plan.basis) plan.answer p (subst (λ l. IsMeaningOf (past.records ++ l) p) planned.records meaning)

-- what a network PDU asks for is what the plan says that its control message led to
act_held : (past : Past) (event : Event) (basis : Basis) (a : Answer) (c : Config) → IsBasisOf past event a basis → LeavesConfig a (config_before past) c
    → HasActs past c event (insight_in basis) a
act_held past (E.Net octets) (B.Pdu heard) a c b leaves =
    has_act past c (insight_in (B.Pdu heard)) a heard.act b.2 b.3 leaves
act_held past (E.Net octets) (B.Beacon reset beacon) a c b leaves = absurd b
act_held past (E.Net octets) (B.Time t) a c b leaves = absurd b
act_held past (E.Net octets) (B.Own befriended) a c b leaves = absurd b
act_held past _ basis a c b leaves = tt

module _ (laws : AreKeeping) (m : NodeMachine) (event : Event) (plan : Plan) (planned_tables : NodeTablesView) where
  -- where all records were stored
  pub event_stands : (first : FlashFound) (old new : Chip) (over : List StoreRecord) (s : Stands first old over m) → m.closed ≡ false
      → (r : Reserve) (tables : NodeTablesView) (entry : Entry)
      → IsPlanned (past_now (node_role node_layers) over s.life.told m.fills) event plan planned_tables
      → ArePuttable m.reserve.store.persist plan.records → IsBounded m.reserve.store.persist (insight_in plan.basis)
      → ((past : Past) → AreNodeTablesOf planned_tables past → AreNodeTablesOf tables past)
      → IsEntryOf (past_now (node_role node_layers) over s.life.told m.fills) event plan r.store.persist entry → entry.fills ≡ m.fills
      → length m.entries + 1 < 2 ^ 32
      → IsStoreOf new r.store ((past_now (node_role node_layers) over s.life.told m.fills).records ++ plan.records)
      → IsMeaningOf ((past_now (node_role node_layers) over s.life.told m.fills).records ++ plan.records) r.store.persist
      → IsPublished r.store r.keeper
      → went_to r.keeper.advances
      ≡ went_to m.reserve.keeper.advances ++ rises (config_of (past_now (node_role node_layers) over s.life.told m.fills).records) plan.records
      → Keeps old new
      → CostsAndUses m.reserve.store.journal.used (length plan.records) (count_of old) (count_of new) r.store.journal.used → new.reads ≡ old.reads → new.faults ≡ old.faults
      → Stands first new over (entered m r tables entry)
  event_stands first old new over s runs r tables entry planned may bounded renewed e fills few store meaning published moved keeps wear unread whole =
      let past : Past = past_now (node_role node_layers) over s.life.told m.fills in
      let h : IsBefore past m = (s.usable runs).before in
      let kept : AreKept (config_of past.records) plan.records = plan_kept laws past m event plan planned_tables h planned may bounded in
      let handles = plan_handles past event plan planned_tables r.store.persist entry planned e meaning in
      let is = plan_stores past event plan planned_tables r.store.persist entry planned e in
      entered_stands (node_role node_layers) IsBefore (node_kind laws) first old new over m s runs r tables entry (insight_in plan.basis) plan.records fills
      handles is
      (before_more laws.whole past m r tables entry (insight_in plan.basis) plan.records h kept meaning
      (renewed _ (planned.tables (told_by past entry (insight_in plan.basis)) (past.records ++ plan.records) e.is_of refl e.has refl (kept_node_of past.records plan.records kept).elements))
      handles.sees is)
      few store published moved
      (omega (arith, s.began, keeps.later, ap (λ (x : Setting). x.faults) keeps.setting)) wear unread whole

  -- where the flash failed
  pub event_stops : (first : FlashFound) (old new : Chip) (over : List StoreRecord) (s : Stands first old over m) → m.closed ≡ false
      → (r : Reserve) (tables : NodeTablesView)
      → IsPlanned (past_now (node_role node_layers) over s.life.told m.fills) event plan planned_tables
      → ArePuttable m.reserve.store.persist plan.records → IsBounded m.reserve.store.persist (insight_in plan.basis)
      → IsCutIn new (past_now (node_role node_layers) over s.life.told m.fills).records plan.records r.keeper.mark
      → old.faults < new.faults → Keeps old new
      → CostsAtMost m.reserve.store.journal.used (length plan.records) (count_of old) (count_of new) → new.reads ≡ old.reads → new.faults ≤ old.faults + 1
      → Stands first new over (stopped m r tables (H.OfEvent event))
  event_stops first old new over s runs r tables planned may bounded cut rose keeps wear unread once =
      let past : Past = past_now (node_role node_layers) over s.life.told m.fills in
      let h : IsBefore past m = (s.usable runs).before in
      let kept : AreKept (config_of past.records) plan.records = plan_kept laws past m event plan planned_tables h planned may bounded in
      stopped_stands (node_role node_layers) IsBefore (node_kind laws) first old new over m s runs r tables event (insight_in plan.basis) plan.records planned.sees
      (planned.records ∙ ap (λ a. stores node_layers past event (insight_in plan.basis) a) planned.answer)
      kept cut
      (omega (arith, s.began, rose, ap (λ (x : Setting). x.faults) keeps.setting)) wear unread once

  -- the invariant
  pub event_ready : (ready : IsReady m) (r : Reserve) (tables : NodeTablesView) (entry : Entry)
      → IsPlanned ready.past event plan planned_tables
      → ArePuttable m.reserve.store.persist plan.records → IsBounded m.reserve.store.persist (insight_in plan.basis)
      → ((past : Past) → AreNodeTablesOf planned_tables past → AreNodeTablesOf tables past)
      → entry.event ≡ event → entry.answer ≡ plan.answer
      → IsMeaningOf (ready.past.records ++ plan.records) r.store.persist
      → IsPublished r.store r.keeper → IsFitFor tables r.store.persist → r.store.journal.closed ≡ false → m.elements ≡ r.store.persist.elements
      → IsReady (entered m r tables entry)
  event_ready ready r tables entry planned may bounded renewed is answer meaning published fit usable elements =
      let past : Past = ready.past in
      let kept : AreKept (config_of past.records) plan.records = plan_kept laws past m event plan planned_tables ready.before planned may bounded in
      record {
        past = with_entry past.told (told_by past entry (insight_in plan.basis)) (past.records ++ plan.records);
        before = before_more laws.whole past m r tables entry (insight_in plan.basis) plan.records ready.before
            kept meaning
            (renewed _ (planned.tables (told_by past entry (insight_in plan.basis)) (past.records ++ plan.records) is refl answer refl (kept_node_of past.records plan.records kept).elements))
            (subst (λ (e : Event). Sees node_layers past e (insight_in plan.basis)) (sym is) planned.sees)
            (planned.records ∙ ap (λ (e : Event). stores node_layers past e (insight_in plan.basis) plan.answer) (sym is)
            ∙ ap (λ (a : Answer). stores node_layers past entry.event (insight_in plan.basis) a) (sym answer));
        published = published;
        fit = fit;
        usable = usable;
        elements = elements;
        paid = omega arith;
      }

  short_told : (t : Told) → All IsInRange t.records → IsShortTold t
  short_told t h = (narrow_of t.records h).ttl

  -- the jobs
  pub event_jobs : (ready : IsReady m) (p : Persist) (jobs : List Job) (elements : ℕ)
      → IsPlanned ready.past event plan planned_tables
      → ArePuttable m.reserve.store.persist plan.records → IsBounded m.reserve.store.persist (insight_in plan.basis)
      → IsMeaningOf (ready.past.records ++ plan.records) p
      → jobs ≡ jobs_of node_layers ready.past (config_in p) event (insight_in plan.basis) plan.answer
      → IsEvent elements event → All (IsJob event) jobs
  event_jobs ready p jobs elements planned may bounded meaning is e =
      let past : Past = ready.past in
      let kept : AreKept (config_of past.records) plan.records = plan_kept laws past m event plan planned_tables ready.before planned may bounded in
      let ranges : All IsInRange (past.records ++ plan.records) = all_ranges past.records plan.records kept ready.before.standing.ranges in
      subst (λ l. All (IsJob event) l) (sym is)
      (jobs_ranged past (config_in p) event (insight_in plan.basis) plan.answer elements planned.sees e
      (subst (λ (c : Config). c.ttl < 2 ^ 7) (sym meaning.config) (narrow_of (past.records ++ plan.records) ranges).ttl)
      (subst (λ (c : Config). Every IsPublishRow c.publications) (sym meaning.config) (built_of (past.records ++ plan.records) ranges).publications)
      (every_map (λ (t : Told). All IsInRange t.records) IsShortTold short_told past.told (recursion_from_All (λ (t : Told). All IsInRange t.records) past.told ready.before.told))
      (rounds_held past event plan.basis plan.answer planned.basis planned.answer)
      (act_held past event plan.basis plan.answer (config_in p) planned.basis (plan_leaves past event plan planned_tables p planned meaning)))

  pub event_quiet : (ready : IsReady m) (p : Persist) (jobs : List Job)
      → jobs ≡ jobs_of node_layers ready.past (config_in p) event (insight_in plan.basis) plan.answer
      → is_outside event ≡ false → All IsQuiet jobs
  event_quiet ready p jobs is e =
      subst (λ l. All IsQuiet l) (sym is) (jobs_quiet ready.past (config_in p) event (insight_in plan.basis) plan.answer e)

  -- the elements are those of before
  pub event_node_over : (past : Past) (p : Persist) → IsBefore past m → IsPlanned past event plan planned_tables
      → ArePuttable m.reserve.store.persist plan.records → IsBounded m.reserve.store.persist (insight_in plan.basis)
      → IsMeaningOf (past.records ++ plan.records) p → IsSameNode (config_before past) (config_in p)
  event_node_over past p h planned may bounded meaning =
      subst (λ c. IsSameNode (config_of past.records) c) (sym meaning.config)
      (kept_node_of past.records plan.records (plan_kept laws past m event plan planned_tables h planned may bounded))

  pub event_after : (ready : IsReady m) (p : Persist) → IsPlanned ready.past event plan planned_tables
      → ArePuttable m.reserve.store.persist plan.records → IsBounded m.reserve.store.persist (insight_in plan.basis)
      → IsMeaningOf (ready.past.records ++ plan.records) p → IsAfter m.elements p
  event_after ready p planned may bounded meaning =
      let past : Past = ready.past in
      let kept : AreKept (config_of past.records) plan.records = plan_kept laws past m event plan planned_tables ready.before planned may bounded in
      let whole : IsWhole (config_in p) = subst IsWhole (sym meaning.config) (all_whole laws.whole past.records plan.records kept ready.before.standing.whole) in
      let node : IsSameNode (config_of past.records) (config_in p) = event_node_over past p ready.before planned may bounded meaning in
      record {
        whole = whole;
        same = ready.elements ∙ ap (λ (c : Config). c.elements) ready.before.standing.meaning.config ∙ sym node.elements;
        unicast = whole.last;
      }
