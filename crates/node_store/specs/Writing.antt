-- What the calls do that write to the flash of a store: what they put, what they answer where nothing changes, what a fault leaves, what a
-- power cut leaves, and what they cost. Each call says which records it puts, and when it refuses them.
use Rattle.std.specs.Prelude.{◌≡◌, ℕ, ◌<◌, List, ◌++◌, fold, true, false, IsTrue, IsOk, OnOk, OnErr, Result, Err}
use Rattle.flash_model.specs.Arming.{Begins, BeginsAtMost, Erases, ErasesAtMost, FailsOnce, Programs, ProgramsAtMost}
use Rattle.flash_model.specs.Chip.{CallCount, Chip, Keeps, LeavesOnly}
use Rattle.record_types.specs.declared.records.StoreRecord.{StoreRecord}
use Rattle.store_definitions.specs.Config.{changed}
use Rattle.node_records.specs.Meaning.{IsMeaningOf}
use Rattle.node_records.specs.Tables.{config_in}
use Rattle.node_store.specs.Tie.{HasMarkFrom, Holds, IsStoreOf}
use Rattle.node_store.specs.View.{StoreView}

-- These records are put behind the others.
pub record Puts (items : List StoreRecord) (old new : Chip) (before after : StoreView) : Type 0 where
  -- the store takes more
  pub usable : after.journal.closed ≡ false
  -- each changes what the store says, the replay list apart
  pub change : config_in after.persist ≡ fold changed (config_in before.persist) items
  -- the store says what the records of before say with these behind them
  pub value : (records : List StoreRecord) → IsMeaningOf records before.persist → IsMeaningOf (records ++ items) after.persist
  -- the store of this flash stays that
  pub kept : (records : List StoreRecord) → IsStoreOf old before records → IsStoreOf new after (records ++ items)
  -- each image of the flash holds them
  pub durable : (records : List StoreRecord) → IsStoreOf old before records → (c : List ℕ) → new.images c → Holds c (records ++ items)

-- Of a store of this flash, what a power cut at any moment of the call leaves, whatever its result.
pub record CutLeaves (left : List StoreRecord → List ℕ → Type 0) (old new : Chip) (before : StoreView) : Type 0 where
  -- the records of before with some of the new ones behind them, as each call says
  pub any_moment : (records : List StoreRecord) → IsStoreOf old before records → LeavesOnly old new (left records)
  -- the mark that is recovered isn't below that of before
  pub mark : (records : List StoreRecord) → IsStoreOf old before records → LeavesOnly old new (HasMarkFrom before.persist.mark)

module _ {T E : Type 0} where
  -- This is the answer, and nothing changes.
  pub record OnlyAnswers {S F : Type 0} (result given : Result T E) (before after : S) (old new : F) : Type 0 where
    pub answer : result ≡ given
    -- what the store, or what holds it, says
    pub same : after ≡ before
    pub flash : new ≡ old

  -- A fault of the flash in this call, and how the call tells it.
  pub record IsFault (result : Result T E) (fault : E) (old new : Chip) (after : StoreView) : Type 0 where
    pub answer : result ≡ Err fault
    -- the store takes no record from then on
    pub closed : after.journal.closed ≡ true
    pub rose : old.faults < new.faults

  -- Nothing but the flash fails.
  pub record FailsAtFlash (result : Result T E) (fault : E) (old new : Chip) (after : StoreView) : Type 0 where
    -- an error is a fault of the flash in this call
    pub cause : OnErr result (IsFault result fault old new after)
    -- and none comes of a flash that doesn't fail
    pub sure : IsTrue old.sure → IsOk result

  -- So many program and erase calls are begun, so many of them are erase calls, and the others are given so many octets.
  pub record CostsCalls (n : CallCount) (result : Result T E) (old new : Chip) : Type 0 where
    pub calls : OnOk result (Begins n.calls old new)
    pub erases : OnOk result (Erases n.erases old new)
    pub octets : OnOk result (Programs n.octets old new)
    -- also where it fails
    pub most_calls : BeginsAtMost n.calls old new
    pub most_erases : ErasesAtMost n.erases old new
    pub most_octets : ProgramsAtMost n.octets old new

  -- What is left of every flash, honest or not.
  pub record LeavesFlash (result : Result T E) (old new : Chip) : Type 0 where
    -- nothing is read
    pub reads : new.reads ≡ old.reads
    -- Ok leaves the count of faults
    pub no_fault : OnOk result (new.faults ≡ old.faults)
    -- and an error raises it by one at most: once a call of the flash has failed, none is made
    pub once : FailsOnce old new
    pub frame : Keeps old new
