-- How many program and erase calls the calls on a store make, how many of them are erase calls, and how many octets the others are given.
use Rattle.std.specs.Prelude.{ℕ, ◌+◌, ◌*◌, ◌==◌, List, if◌then◌else◌, length}
use Rattle.flash_model.specs.Chip.{CallCount}
use Rattle.node_limits.specs.declared.TheConstants.{BANK_RECORDS, BANK_SECTORS, RECORD_CALLS, BANK_CALLS}
use Rattle.node_records.specs.declared.persist.Persist.{Persist}
use Rattle.node_snapshot.specs.Snapshot.{snapshot_of}
use Rattle.store_definitions.specs.Wear.{CostsAndUses, IsTakenUp, RECORD_OCTETS}
use Rattle.node_store.specs.View.{StoreView}

-- the program calls of so many slots, and no erase call
abbrev pub only_slots : ℕ → CallCount
only_slots n = record { calls = RECORD_CALLS * n; erases = 0; octets = RECORD_OCTETS * n }

-- a compaction: the sectors of a bank are erased, each slot of the snapshot takes two program calls, and the header two
abbrev pub compaction : Persist → CallCount
compaction p = record {
  calls = BANK_CALLS + RECORD_CALLS * length (snapshot_of p);
  erases = BANK_SECTORS;
  octets = RECORD_OCTETS * (1 + length (snapshot_of p));
}

-- for room: a compaction where all slots of the bank are used
abbrev pub room_of : StoreView → CallCount
room_of s = if s.journal.used == BANK_RECORDS then compaction s.persist else only_slots 0

-- a put: the two of its slot, behind those for room
abbrev pub calls_of : StoreView → CallCount
calls_of s = record { calls = (room_of s).calls + RECORD_CALLS; erases = (room_of s).erases; octets = (room_of s).octets + RECORD_OCTETS }

-- how many slots are used where there is room
abbrev pub used_with_room : StoreView → ℕ
used_with_room s = if s.journal.used == BANK_RECORDS then length (snapshot_of s.persist) else s.journal.used

-- A mount stores no record. It costs a compaction where the bank has format 01, so that all its slots are taken up, and else nothing. At most so
-- many are used then.
pub record IsOpenedWith (content : List ℕ) (before after : CallCount) (left : ℕ) : Type 0 where
  pub used : ℕ
  pub taken_up : IsTakenUp content used
  pub costs : CostsAndUses used 0 before after left
