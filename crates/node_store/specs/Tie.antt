-- A store and the flash that it came from. What an image holds is told up to lists that say the same: a compaction and a migration write
-- other records that say what the old ones said.
use Rattle.std.specs.Prelude.{◌≡◌, ◌⊎◌, ℕ, ◌≤◌, List, [], ◌∷◌, ◌++◌, length, take, false, None, ⊤}
use Rattle.flash_model.specs.Chip.{Chip}
use Rattle.slot_definitions.specs.Slots.{recovered}
use Rattle.record_types.specs.declared.records.StoreRecord.{StoreRecord}
use Rattle.record_types.specs.declared.records.StoreRecord.TheVariants as R
use Rattle.node_records.specs.declared.persist.Persist.{Persist}
use Rattle.node_records.specs.Meaning.{IsMeaningOf}
use Rattle.store_definitions.specs.Alike.{IsAlike}
use Rattle.store_definitions.specs.Config.{config_of}
use Rattle.store_definitions.specs.Node.{IsWhole}
use Rattle.store_definitions.specs.Recovered.{IsRecovered}
use Rattle.slot_journal.specs.Headers.{IsTidy}
use Rattle.slot_journal.specs.Tie.{IsJournalOf}
use Rattle.node_store.specs.Mounted.{IsRead}
use Rattle.node_store.specs.View.{StoreView}

-- An image holds these records: it recovers a list that is mounted, and that says the same.
pub record Holds (content : List ℕ) (records : List StoreRecord) : Type 0 where
  pub found : List StoreRecord
  pub read : IsRead content found
  pub alike : IsAlike found records

-- the same of an image whose headers an erase that is cut can't make count, as every call leaves them
pub record IsHeld (records : List StoreRecord) (content : List ℕ) : Type 0 where
  pub tidy : IsTidy content
  pub holds : Holds content records

-- The flash is the one that this store came from, and only this store has changed it since: what is read is its one image, which
-- recovers exactly these records, and the store knows what they say.
pub record IsExactly (chip : Chip) (store : StoreView) (records : List StoreRecord) : Type 0 where
  pub journal : IsJournalOf chip store.journal
  pub read : IsRead chip.now records
  pub meaning : IsMeaningOf records store.persist

-- The same up to records that say the same. Mounting and provisioning give it, and each call that succeeds keeps it.
pub record IsStoreOf (chip : Chip) (store : StoreView) (records : List StoreRecord) : Type 0 where
  pub found : List StoreRecord
  pub exact : IsExactly chip store found
  pub alike : IsAlike found records

-- the records of before, or these with the new one last; so it is mounted again
pub record IsPut (records : List StoreRecord) (item : StoreRecord) (content : List ℕ) : Type 0 where
  pub tidy : IsTidy content
  pub either : Holds content records ⊎ Holds content (records ++ item ∷ [])

-- the records of before with the first few of the new ones behind them
pub record IsFront (records items : List StoreRecord) (content : List ℕ) : Type 0 where
  pub tidy : IsTidy content
  pub n : ℕ
  pub few : n ≤ length items
  pub holds : Holds content (records ++ take n items)

-- nothing is recovered yet, or the records of provisioning
pub record IsMade (records : List StoreRecord) (content : List ℕ) : Type 0 where
  pub tidy : IsTidy content
  pub either : (recovered content ≡ None) ⊎ IsRead content records

-- a node that can be run, or one that was reset
pub record IsNode (content : List ℕ) : Type 0 where
  pub tidy : IsTidy content
  pub records : List StoreRecord
  pub read : IsRead content records
  pub whole : (config_of records).reset ≡ false → IsWhole (config_of records)

-- the mark that is recovered is this or above
abbrev pub HasMarkFrom : ℕ → List ℕ → Type 0
HasMarkFrom mark content = (found : List StoreRecord) → IsRecovered content found → mark ≤ (config_of found).mark

-- it is this
abbrev pub HasMark : ℕ → List ℕ → Type 0
HasMark mark content = (found : List StoreRecord) → IsRecovered content found → (config_of found).mark ≡ mark

-- `mark` and `current` of a Numbers record aren't below the stored ones
abbrev pub IsNotBelow : Persist → StoreRecord → Type 0
IsNotBelow p (R.Numbers current progress mark hours since) = (p.iv.current ≤ current) × (p.mark ≤ mark)
IsNotBelow p _ = ⊤

-- it says no mark
abbrev pub IsNoNumbers : StoreRecord → Type 0
IsNoNumbers (R.Numbers current progress mark hours since) = ⊥
IsNoNumbers _ = ⊤
