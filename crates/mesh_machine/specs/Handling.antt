-- How an event is handled, whatever its kind: what the calls of one kind give to the call over all kinds.
use Rattle.std.specs.Prelude.{◌≡◌, ℕ, ◌+◌, ◌-◌, ◌<◌, ◌^◌, Bool, false, List, [], ◌∷◌, ◌++◌, length}
use Rattle.event_plans.specs.Basis.{Plan}
use Rattle.early_reading.specs.Known.{IsKnown}
use Rattle.early_reading.specs.declared.early.Known.{Known}
use Rattle.event_plans.specs.Memory.{AreNodeTablesOf, IsFitFor, NodeTablesView, view_in}
use Rattle.event_plans.specs.Plans.{IsPlanned, IsStanding, LeavesConfig, insight_in, of_own}
use Rattle.event_plans.specs.declared.plan.OwnPlan.{OwnPlan}
use Rattle.event_records.specs.Putting.{AreMoves, ArePuttable}
use Rattle.event_storing.specs.Storing.{HasRisen}
use Rattle.flash_model.specs.Chip.{Chip, count_of}
use Rattle.machine_contract.specs.Moves.{rises}
use Rattle.seq_word.specs.Seen.{last_word, went_to}
use Rattle.machine_contract.specs.Ranges.{IsEvent}
use Rattle.machine_contract.specs.declared.answers.Answered.{Answered}
use Rattle.machine_contract.specs.declared.answers.Hand.{Hand}
use Rattle.machine_contract.specs.declared.answers.Stop.{Stop}
use Rattle.machine_contract.specs.declared.answers.Stop.TheVariants as S
use Rattle.machine_ties.specs.Kept.{IsBounded}
use Rattle.machine_ties.specs.Ties.{IsReady}
use Rattle.machine_ties.specs.Views.{NodeMachine}
use Rattle.mesh_hearing.specs.Tables.{IsFit}
use Rattle.machine_standing.specs.declared.entering.Place.{Place}
use Rattle.mesh_machine.specs.declared.parts.Parts.{Parts}
use Rattle.mesh_types.specs.declared.events.Event.{Event}
use Rattle.mesh_types.specs.declared.events.Event.TheVariants as E
use Rattle.mesh_types.specs.declared.jobs.Job.{Job}
use Rattle.node_layers.specs.NodeLayers.{node_layers}
use Rattle.node_records.specs.Meaning.{IsMeaningOf}
use Rattle.node_records.specs.Tables.{config_in}
use Rattle.node_records.specs.declared.persist.Persist.{Persist}
use Rattle.node_store.specs.Tie.{IsFront, IsStoreOf}
use Rattle.record_types.specs.declared.records.StoreRecord.{StoreRecord}
use Rattle.event_definitions.specs.Answers.{config_before}
use Rattle.event_definitions.specs.History.{OfNothing, Past}
use Rattle.event_definitions.specs.Jobs.{jobs_of}
use Rattle.seq_reserve.specs.Reserving.{IsDurable, IsPublished}
use Rattle.store_definitions.specs.Wear.{CostsAndUses, CostsAtMost}

-- a machine of these parts
abbrev pub machine_of : Parts → ℕ → Bool → Hand → ℕ → NodeMachine
machine_of parts fills closed hand elements = record {
  reserve = parts.reserve;
  tables = parts.tables;
  entries = parts.history.entries;
  moves = parts.history.moves;
  taken = parts.history.taken;
  fills = fills;
  closed = closed;
  hand = hand;
  elements = elements;
}

-- The parts are those of a machine between two calls, and the event is one that it may be given.
pub record IsTurnOf (parts : Parts) (event : Event) : Type 0 where
  pub fills : ℕ
  pub closed : Bool
  pub hand : Hand
  pub elements : ℕ
  pub ready : IsReady (machine_of parts fills closed hand elements)
  pub given : IsEvent elements event

-- What is known of the octets of a network PDU is their reading by the tables and what the store says.
abbrev pub IsKnownFor : NodeTablesView → Persist → Event → Known → Type 0
IsKnownFor tables p event known = (octets : List ℕ) → event ≡ E.Net octets → IsKnown (view_in tables p) octets known

-- there is memory for an entry and its jobs
pub record HasRoom (parts : Parts) (draft : List Job) : Type 0 where
  pub room : 0 < parts.history.room
  pub few : length parts.history.entries < 2 ^ 32 - 1
  pub none : draft ≡ []

-- The plan of an event, with the tables that it leaves, over what the store says and the tables of before.
pub record IsAsked (parts : Parts) (event : Event) (plan : Plan) (tables : NodeTablesView) : Type 0 where
  pub planned : (past : Past) → IsStanding past parts.reserve.store.persist parts.tables → IsPlanned past event plan tables
  pub may : ArePuttable parts.reserve.store.persist plan.records
  pub moves : AreMoves (config_in parts.reserve.store.persist) plan.records
  pub bounded : IsBounded parts.reserve.store.persist (insight_in plan.basis)
  pub fit : IsFitFor tables parts.reserve.store.persist

-- Records were stored: the store says them, and what is kept in memory has the keys that it says.
pub record AreStored (items : List StoreRecord) (old new : Parts) (before after : Chip) : Type 0 where
  pub usable : new.reserve.store.journal.closed ≡ false
  pub value : (records : List StoreRecord) → IsMeaningOf records old.reserve.store.persist
      → IsMeaningOf (records ++ items) new.reserve.store.persist
  pub kept : (records : List StoreRecord) → IsStoreOf before old.reserve.store records
      → IsStoreOf after new.reserve.store (records ++ items)
  pub no_fault : after.faults ≡ before.faults
  pub published : IsPublished new.reserve.store new.reserve.keeper
  pub made : new.reserve.keeper.which ≡ old.reserve.keeper.which
  -- with each that raised the transmit IV Index the counter was moved
  pub moved : went_to new.reserve.keeper.advances
      ≡ went_to old.reserve.keeper.advances ++ rises (config_in old.reserve.store.persist) items
  pub risen : HasRisen old.reserve.keeper new.reserve.keeper
  pub keys : IsFit new.tables.hearing new.reserve.store.persist
  pub tables : (past : Past) → AreNodeTablesOf old.tables past → AreNodeTablesOf new.tables past
  pub models : new.tables.models ≡ old.tables.models
  -- program and erase calls were made at most as many as they cost
  pub wear : CostsAndUses old.reserve.store.journal.used (length items) (count_of before) (count_of after)
      new.reserve.store.journal.used

-- The flash failed while records were stored: each image has a front of them behind those of before.
pub record AreHalted (items : List StoreRecord) (old new : Parts) (before after : Chip) : Type 0 where
  pub rose : before.faults < after.faults
  pub fronts : (records : List StoreRecord) → IsStoreOf before old.reserve.store records
      → (image : List ℕ) → after.images image → IsFront records items image
  pub durable : (records : List StoreRecord) → IsStoreOf before old.reserve.store records
      → IsDurable after new.reserve.keeper.mark
  pub made : new.reserve.keeper.which ≡ old.reserve.keeper.which
  pub wear : CostsAtMost old.reserve.store.journal.used (length items) (count_of before) (count_of after)

-- the parts with the tables that a plan leaves
abbrev pub planned_parts : Parts → NodeTablesView → Parts
planned_parts parts tables = record parts { tables = tables }

-- An event was handled: by some plan its records were stored, its jobs made, and its entry appended.
pub record IsDone (old new : Parts) (event : Event) (place : Place) (before after : Chip) (answered : Answered) : Type 0 where
  pub plan : Plan
  pub tables : NodeTablesView
  pub asked : IsAsked old event plan tables
  pub stored : AreStored plan.records (planned_parts old tables) new before after
  pub answer : answered.answer ≡ plan.answer
  pub jobs : (past : Past) → IsStanding past old.reserve.store.persist old.tables → IsPlanned past event plan tables
      → (config_in new.reserve.store.persist).unicast ≡ (config_before past).unicast
      → LeavesConfig plan.answer (config_before past) (config_in new.reserve.store.persist)
      → answered.jobs
      ≡ jobs_of node_layers past (config_in new.reserve.store.persist) event (insight_in plan.basis) plan.answer
  pub entry : new.history.entries
      ≡ old.history.entries
      ++ (record {
        bearer = place.bearer;
        number = place.number;
        event = event;
        fills = place.fills;
        answer = answered.answer;
        jobs = answered.jobs;
      }) ∷ []
  -- behind it the word that the counter was moved to last
  pub moves : new.history.moves ≡ old.history.moves ++ last_word (went_to new.reserve.keeper.advances) ∷ []
  pub taken : new.history.taken ≡ old.history.taken
  pub among : answered.at ≡ length old.history.entries
  pub few : length old.history.entries + 1 < 2 ^ 32

-- An event that brings neither octets heard nor time was handled: by some plan its jobs were made, and its entry appended. It stores nothing.
pub record IsActed (old new : Parts) (event : Event) (place : Place) (answered : Answered) : Type 0 where
  pub plan : OwnPlan
  pub asked : IsAsked old event (of_own plan) new.tables
  pub reserve : new.reserve ≡ old.reserve
  pub answer : answered.answer ≡ plan.answer
  pub jobs : (past : Past) → IsPlanned past event (of_own plan) new.tables
      → answered.jobs ≡ jobs_of node_layers past (config_in old.reserve.store.persist) event OfNothing plan.answer
  pub entry : new.history.entries
      ≡ old.history.entries
      ++ (record {
        bearer = place.bearer;
        number = place.number;
        event = event;
        fills = place.fills;
        answer = answered.answer;
        jobs = answered.jobs;
      }) ∷ []
  -- behind it the word that the counter was moved to last
  pub moves : new.history.moves ≡ old.history.moves ++ last_word (went_to new.reserve.keeper.advances) ∷ []
  pub taken : new.history.taken ≡ old.history.taken
  pub among : answered.at ≡ length old.history.entries
  pub few : length old.history.entries + 1 < 2 ^ 32

-- The flash failed: by some plan, while its records were stored.
pub record IsCutShort (old new : Parts) (event : Event) (before after : Chip) : Type 0 where
  pub plan : Plan
  pub tables : NodeTablesView
  pub asked : IsAsked old event plan tables
  pub halted : AreHalted plan.records (planned_parts old tables) new before after
  pub entries : new.history.entries ≡ old.history.entries
  pub moves : new.history.moves ≡ old.history.moves
  pub taken : new.history.taken ≡ old.history.taken

-- nothing changed
pub record AreAsBefore (old new : Parts) : Type 0 where
  pub reserve : new.reserve ≡ old.reserve
  pub tables : new.tables ≡ old.tables
  pub history : new.history ≡ old.history

-- Why it wasn't handled: memory ran out, and nothing changed; or the flash failed.
abbrev pub IsStopped : {F : Type 0} → (F → Chip) → Event → Parts → Parts → F → F → Stop → Type 0
IsStopped chip event old new before after S.Closed = ⊥
IsStopped chip event old new before after S.Memory = AreAsBefore old new × (after ≡ before)
IsStopped chip event old new before after S.Flash = IsCutShort old new event (chip before) (chip after)
