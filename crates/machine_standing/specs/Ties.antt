-- What holds of a machine, its flash and the records that its life opened over, between two calls, whatever kind of node it is: the kind is its
-- role, and what it says of the past that the machine stands for.
use Rattle.std.specs.Prelude.{◌≡◌, ℕ, ◌+◌, ◌*◌, ◌≤◌, true, false, IsTrue, All, List, [], ◌∷◌, ◌++◌}
use Rattle.event_definitions.specs.History.{Insight, Past}
use Rattle.event_definitions.specs.Role.{Role}
use Rattle.flash_model.specs.Chip.{Chip, count_of}
use Rattle.machine_contract.specs.declared.answers.Hand.{Hand}
use Rattle.machine_contract.specs.declared.answers.Hand.TheVariants as H
use Rattle.machine_contract.specs.Moved.{IsMoved}
use Rattle.machine_contract.specs.Opening.{FlashFound}
use Rattle.machine_contract.specs.Standing.{IsLifeSoFar, past_now}
use Rattle.machine_standing.specs.Kept.{AreKept, KeptLaw}
use Rattle.machine_standing.specs.Views.{LifeMachine, shown_of}
use Rattle.mesh_types.specs.declared.events.Event.{Event}
use Rattle.mesh_types.specs.declared.history.Entry.{Entry}
use Rattle.node_records.specs.Meaning.{IsMeaningOf}
use Rattle.node_records.specs.declared.persist.Persist.{Persist}
use Rattle.node_store.specs.Tie.{IsFront, IsNode, IsStoreOf}
use Rattle.record_types.specs.declared.records.StoreRecord.{StoreRecord}
use Rattle.run_definitions.specs.Order.{is_outside}
use Rattle.seq_reserve.specs.Reserving.{IsDurable, IsPublished}
use Rattle.seq_reserve.specs.declared.reserve.Reserve.{Reserve}
use Rattle.seq_word.specs.Seen.{last_word, went_to}
use Rattle.seq_word.specs.Word.{seq_of}
use Rattle.store_definitions.specs.Config.{config_of}
use Rattle.store_definitions.specs.Node.{IsWhole}
use Rattle.store_definitions.specs.Numbers.{fill_of}
use Rattle.store_definitions.specs.Ranges.{IsInRange}
use Rattle.store_definitions.specs.Wear.{CostsAndUses}

-- a store whose value says the records of a node that can be run
pub record IsNodeStore (over : List StoreRecord) (p : Persist) : Type 0 where
  pub meaning : IsMeaningOf over p
  pub ranges : All IsInRange over
  pub whole : IsWhole (config_of over)

-- The store takes records, its mark is the keeper's, what is kept in memory fits what it says, and the elements are those that it says. Some
-- past stands before the next event. The refills since the last entry lie under one IV Index, so there are at most 65,536.
pub record IsReadyBy {Memory : Type 0} (Before : Past → LifeMachine Memory → Type 0) (Fits : Memory → Persist → Type 0)
    (m : LifeMachine Memory) : Type 0 where
  pub past : Past
  pub before : Before past m
  pub published : IsPublished m.reserve.store m.reserve.keeper
  pub fit : Fits m.tables m.reserve.store.persist
  pub usable : m.reserve.store.journal.closed ≡ false
  pub elements : m.elements ≡ m.reserve.store.persist.elements
  pub paid : 256 * m.fills ≤ seq_of m.reserve.keeper.mark

-- Of a machine that isn't closed the flash is that of its store, which has the records that the entries and refills so far left.
pub record IsOverBy {Memory : Type 0} (Before : Past → LifeMachine Memory → Type 0) (chip : Chip) (past : Past)
    (m : LifeMachine Memory) : Type 0 where
  pub store : IsStoreOf chip m.reserve.store past.records
  pub before : Before past m

-- A machine stands over a flash, as its life found it and as it is, and over the records that the life opened over.
pub record StandsBy {Memory : Type 0} (role : Role) (Before : Past → LifeMachine Memory → Type 0) (first : FlashFound) (chip : Chip)
    (over : List StoreRecord) (m : LifeMachine Memory) : Type 0 where
  pub life : IsLifeSoFar role IsNode first chip over (shown_of m)
  pub usable : m.closed ≡ false → IsOverBy Before chip (past_now role over life.told m.fills) m
  pub moved : m.closed ≡ false → IsMoved over (past_now role over life.told m.fills).records m.reserve.keeper.advances
  -- behind its last entry it shows where it moved the counter to last
  pub last : m.closed ≡ false → last_word (went_to m.reserve.keeper.advances) ≡ last_word m.moves
  pub began : chip.setting.faults ≤ chip.faults
  pub wear : m.closed ≡ false
      → CostsAndUses life.paid.used life.paid.stored first.count (count_of chip) m.reserve.store.journal.used

-- The machine after an event: with this entry, and no refill behind it.
abbrev pub entered_by : {Memory : Type 0} → LifeMachine Memory → Reserve → Memory → Entry → LifeMachine Memory
entered_by m reserve tables entry =
    record m {
      reserve = reserve;
      tables = tables;
      entries = m.entries ++ entry ∷ [];
      moves = m.moves ++ last_word (went_to reserve.keeper.advances) ∷ [];
      fills = 0;
    }

-- the machine that a call closed, with this in hand
abbrev pub stopped_by : {Memory : Type 0} → LifeMachine Memory → Reserve → Memory → Hand → LifeMachine Memory
stopped_by m reserve tables hand = record m { reserve = reserve; tables = tables; closed = true; hand = hand }

-- the machine after a refill
abbrev pub refilled_by : {Memory : Type 0} → LifeMachine Memory → Reserve → LifeMachine Memory
refilled_by m reserve = record m { reserve = reserve; fills = m.fills + 1 }

-- the machine at the beginning of a life
abbrev pub opened_by : {Memory : Type 0} → Reserve → Memory → ℕ → LifeMachine Memory
opened_by reserve tables elements = record {
  reserve = reserve;
  tables = tables;
  entries = [];
  moves = [];
  taken = 0;
  fills = 0;
  closed = false;
  hand = H.Nothing;
  elements = elements;
}

-- The mark is at most the one that any image recovers, and each image holds a front of these records behind those of before.
pub record IsCutIn (chip : Chip) (records items : List StoreRecord) (mark : ℕ) : Type 0 where
  pub honest : IsTrue chip.honest
  pub fronts : (image : List ℕ) → chip.images image → IsFront records items image
  pub durable : IsDurable chip mark

-- a past with a refill more
abbrev pub with_fill : Past → Past
with_fill past = record { told = past.told; records = past.records ++ fill_of (config_of past.records) ∷ [] }

-- What such a kind of machine owes: what stands before its next event says the records of a node that can be run; an event that follows a line
-- stores nothing; and a refill changes nothing of what it keeps in memory.
pub record IsKind {Memory : Type 0} (role : Role) (Before : Past → LifeMachine Memory → Type 0) : Type 0 where
  pub whole : KeptLaw
  pub said : (past : Past) (m : LifeMachine Memory) → Before past m → IsNodeStore past.records m.reserve.store.persist
  pub inside : (past : Past) (event : Event) (insight : Insight) → is_outside event ≡ false
      → role.stores past event insight (role.answer past event insight) ≡ []
  pub refilled : (past : Past) (m : LifeMachine Memory) (r : Reserve)
      → AreKept (config_of past.records) (fill_of (config_of past.records) ∷ [])
      → IsMeaningOf (with_fill past).records r.store.persist → Before past m → Before (with_fill past) (refilled_by m r)
