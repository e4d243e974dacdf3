-- A flash from which a life can be opened.
use Rattle.std.specs.Prelude.{◌≡◌, ℕ, List, ◌++◌, All, IsTrue}
use Rattle.flash_model.specs.Arming.{BeginsAtMost, ErasesAtMost, FailsOnce, ProgramsAtMost, ReadsAtMost}
use Rattle.flash_model.specs.Chip.{CallCount, Chip, Stays, count_of}
use Rattle.node_limits.specs.declared.TheConstants.{BANK_SECTORS, COMPACTION_CALLS}
use Rattle.record_types.specs.declared.records.StoreRecord.{StoreRecord}
use Rattle.slot_definitions.specs.Slots.{HasFormat}
use Rattle.store_definitions.specs.Alike.{IsAlike}
use Rattle.store_definitions.specs.Ranges.{IsInRange}
use Rattle.store_definitions.specs.Recovered.{IsRecovered}
use Rattle.store_definitions.specs.Wear.{COMPACTION_OCTETS, MOUNT_READS}

-- of whatever an image of the flash recovers this holds
abbrev pub EachRecovered : Chip → (List StoreRecord → Type 0) → Type 0
EachRecovered chip P =
    (image : List ℕ) (records : List StoreRecord) → chip.images image → IsRecovered image records → P records

-- an honest flash each image of which is one that a life can be opened from
pub record IsNodeFlash (IsNodeImage : List ℕ → Type 0) (chip : Chip) : Type 0 where
  pub honest : IsTrue chip.honest
  pub each : (image : List ℕ) → chip.images image → IsNodeImage image

-- What a life finds of a flash: what is read, how many program and erase calls, and read calls, were begun so far, and how often it has failed.
pub record FlashFound : Type 0 where
  pub now : List ℕ
  pub count : CallCount
  pub reads : ℕ
  pub faults : ℕ

abbrev pub found_of : Chip → FlashFound
found_of chip = record { now = chip.now; count = count_of chip; reads = chip.reads; faults = chip.faults }

-- these records say what those of before and the ones behind them say, and all of these are in range
pub record IsLeft (before more next : List StoreRecord) : Type 0 where
  pub ranges : All IsInRange (before ++ more)
  pub alike : IsAlike next (before ++ more)

-- Nothing was written: the content stays, and no program or erase call was made.
pub record IsUnwritten (old new : Chip) : Type 0 where
  pub stays : Stays old new
  pub no_calls : count_of new ≡ count_of old

-- Opening a life writes nothing to a flash that isn't of format 01. One that is may be migrated, with the calls of that at most. It reads at most
-- what a mount does, and once a call of the flash has failed, none is made.
pub record MigratesOnly (old new : Chip) : Type 0 where
  pub unwritten : ¬ HasFormat 1 old.now → IsUnwritten old new
  pub most_calls : BeginsAtMost COMPACTION_CALLS old new
  pub most_erases : ErasesAtMost BANK_SECTORS old new
  pub most_octets : ProgramsAtMost COMPACTION_OCTETS old new
  pub most_reads : ReadsAtMost MOUNT_READS old new
  pub once : FailsOnce old new
