-- What the slots of a flash are read as, up to the first that is damaged.
use Rattle.std.specs.Prelude.{◌≡◌, ℕ, ◌+◌, ◌*◌, ◌≤◌, List, [], ◌∷◌, ◌++◌, All, map, Some, false}
use Rattle.slot_definitions.specs.Slots.{HasFormat, text_at, gated, slots_to}
use Rattle.mesh_base.specs.declared.slot.Slot.{Slot}
use Rattle.record_types.specs.declared.records.StoreRecord.{StoreRecord}
use Rattle.node_records.specs.declared.persist.Persist.{Persist}
use Rattle.node_records.specs.Meaning.{IsMeaningOf}
use Rattle.store_definitions.specs.Config.{config_of}
use Rattle.store_definitions.specs.Ranges.{IsInRange}
use Rattle.store_definitions.specs.Recovered.{record_text, HasOneName, IsRecovered}
use Rattle.slot_journal.specs.Headers.{IsTidy}
use Rattle.store_definitions.specs.Following.{Follows, AreInOrder}

-- whether a bank of this format may hold the record
abbrev pub IsOfFormat : ℕ → StoreRecord → Type 0
IsOfFormat format item = format ≡ 1 → HasOneName item

-- Slots of a bank of this format are the texts of these records, each of which has its fields in range and may follow those before it.
pub record AreRead (format : ℕ) (slots : List Slot) (records : List StoreRecord) : Type 0 where
  pub texts : slots ≡ map record_text records
  pub ranges : All IsInRange records
  pub names : format ≡ 1 → All HasOneName records
  pub order : AreInOrder [] records

-- Slot n of a bank is the first that is damaged: it is gated, those before it are read, and no record that may follow them has its text.
pub record IsDamaged (content : List ℕ) (bank format n : ℕ) : Type 0 where
  pub before : ℕ
  pub number : n ≡ before + 1
  pub most : n ≤ 1023
  pub records : List StoreRecord
  pub read : AreRead format (slots_to content bank before) records
  pub slot : Slot
  pub gate : gated (text_at content (1024 * bank + n)) ≡ Some slot
  pub none : (item : StoreRecord) → IsInRange item → record_text item ≡ slot → IsOfFormat format item
      → Follows records item → ⊥

-- An image recovers these records, and each may follow those before it.
pub record IsRead (content : List ℕ) (records : List StoreRecord) : Type 0 where
  pub held : IsRecovered content records
  pub order : AreInOrder [] records

-- what a mount finds on a flash: the records of the bank that counts, no Reset among them, and what they say
pub record IsMounted (content : List ℕ) (p : Persist) : Type 0 where
  pub records : List StoreRecord
  pub read : IsRead content records
  pub meaning : IsMeaningOf records p
  pub stands : (config_of records).reset ≡ false

-- what provisioning in format 01 leaves: it is mounted as these records
pub record IsOldNode (records : List StoreRecord) (content : List ℕ) : Type 0 where
  pub tidy : IsTidy content
  pub read : IsRead content records
  pub format : HasFormat 1 content

-- the value says what the slots 1 to n are read as
pub record AreSaid (content : List ℕ) (bank format n : ℕ) (p : Persist) : Type 0 where
  pub records : List StoreRecord
  pub read : AreRead format (slots_to content bank n) records
  pub meaning : IsMeaningOf records p

-- a record that may follow those that were said has this text, and is said too
pub record IsTaken (format : ℕ) (old : Persist) (slot : Slot) (new : Persist) : Type 0 where
  pub item : StoreRecord
  pub range : IsInRange item
  pub text : record_text item ≡ slot
  pub names : IsOfFormat format item
  pub follows : (records : List StoreRecord) → IsMeaningOf records old
      → Follows records item × IsMeaningOf (records ++ item ∷ []) new

-- no record that may follow those that are said has this text
abbrev pub IsRefused : ℕ → Persist → Slot → Type 0
IsRefused format p slot = (records : List StoreRecord) → IsMeaningOf records p
    → (item : StoreRecord) → IsInRange item → record_text item ≡ slot → IsOfFormat format item → Follows records item
    → ⊥
