-- How many program and erase calls records cost the flash, how many of them are erase calls, and how many octets the others are given. A record takes
-- two program calls, of the 32 octets of its slot together. Where all slots of
-- the bank are used, the records that say the same are written into the other bank first, whose sectors are erased before.
use Rattle.std.specs.Prelude.{◌≡◌, ◌⊎◌, ℕ, ◌+◌, ◌*◌, ◌-◌, ◌<◌, ◌≤◌, List, Some}
use Rattle.flash_model.specs.Chip.{CallCount}
use Rattle.node_limits.specs.declared.TheConstants.{BANK_RECORDS, BANK_SECTORS, BANK_SLOTS, COMPACTION_CALLS, RECORD_CALLS, SNAPSHOT_RECORDS}
use Rattle.slot_definitions.specs.Slots.{HasFormat, IsUsed, counting}

-- octets that the program calls of a record are given, and those of a compaction: of its records, and of its header
abbrev pub RECORD_OCTETS : ℕ
RECORD_OCTETS = 32

abbrev pub COMPACTION_OCTETS : ℕ
COMPACTION_OCTETS = RECORD_OCTETS * (1 + SNAPSHOT_RECORDS)

-- read calls of a mount, at most: of the two headers, and of each slot of a bank twice, to find the last used one and to take its record
abbrev pub MOUNT_READS : ℕ
MOUNT_READS = 2 * BANK_SLOTS

-- so many slots of the bank that counts are used
pub record UsesSlots (content : List ℕ) (used : ℕ) : Type 0 where
  pub bank : ℕ
  pub counts : counting content ≡ Some bank
  pub slots : IsUsed content bank used

-- How many slots of it take no record any more: the used ones, and all 1,024 where it has format 01, since such a bank is migrated first, also where
-- no record is put.
abbrev pub IsTakenUp : List ℕ → ℕ → Type 0
IsTakenUp content used = (HasFormat 1 content × (used ≡ BANK_SLOTS)) ⊎ UsesSlots content used

-- So many compactions, where so many slots were used at first and so many records put since. The first finds all slots used as a record is put, or
-- format 01, and each leaves at least 619.
abbrev pub AreNeeded : ℕ → ℕ → ℕ → Type 0
AreNeeded used records compactions =
    (compactions ≡ 0) ⊎ (BANK_RECORDS + (BANK_RECORDS - SNAPSHOT_RECORDS) * (compactions - 1) < used + records)

-- So many compactions may have been needed (`AreNeeded`), and the counts rose from one to the other at most by what these and so many records cost.
pub record Costs (used records compactions : ℕ) (before after : CallCount) : Type 0 where
  pub calls : after.calls ≤ before.calls + (RECORD_CALLS * records + COMPACTION_CALLS * compactions)
  pub erases : after.erases ≤ before.erases + BANK_SECTORS * compactions
  pub octets : after.octets ≤ before.octets + (RECORD_OCTETS * records + COMPACTION_OCTETS * compactions)
  pub needed : AreNeeded used records compactions

-- The counts rose at most by what so many records cost, where so many slots were used at first.
pub record CostsAtMost (used records : ℕ) (before after : CallCount) : Type 0 where
  pub compactions : ℕ
  pub costs : Costs used records compactions before after

-- the same, and at most so many slots are used then
pub record CostsAndUses (used records : ℕ) (before after : CallCount) (left : ℕ) : Type 0 where
  pub compactions : ℕ
  pub costs : Costs used records compactions before after
  pub room : left + (BANK_RECORDS - SNAPSHOT_RECORDS) * compactions ≤ used + records
