-- A flash whose octets come from outside.
use Rattle.std.specs.Prelude.{◌≡◌, ◌*◌, ◌<◌, ◌≤◌, List, ℕ, false, IsTrue, ⊤}
use Rattle.flash_model.specs.Chip.{Chip}
use Rattle.node_records.specs.Meaning.{IsMeaningOf}
use Rattle.node_records.specs.declared.persist.Persist.{Persist}
use Rattle.record_types.specs.declared.records.StoreRecord.{StoreRecord}
use Rattle.slot_definitions.specs.Slots.{text_at}
use Rattle.slot_journal.specs.Headers.{IsSteady}
use Rattle.slot_journal.specs.declared.tidying.Untidy.{Untidy}
use Rattle.slot_journal.specs.declared.tidying.Untidy.TheVariants as U
use Rattle.store_definitions.specs.Config.{config_of}
use Rattle.store_definitions.specs.Node.{IsWhole}
use Rattle.node_store.specs.Causes.{IsFoundAs}
use Rattle.node_store.specs.Mounted.{IsRead}
use Rattle.node_store.specs.declared.images.ImageFault.{ImageFault}
use Rattle.node_store.specs.declared.images.ImageFault.TheVariants as I
use Rattle.node_store.specs.declared.mounting.StoreFault.TheVariants as F

-- the value says what the content recovers, each record of which may follow those before it
pub record IsReadFrom (content : List ℕ) (p : Persist) : Type 0 where
  pub records : List StoreRecord
  pub read : IsRead content records
  pub meaning : IsMeaningOf records p

-- the records that are read say no Node Reset, and aren't those of a node that can be run
pub record IsNotWhole (content : List ℕ) : Type 0 where
  pub records : List StoreRecord
  pub read : IsRead content records
  pub runs : (config_of records).reset ≡ false
  pub broken : IsWhole (config_of records) → ⊥

-- which refusal of an image stands for one of its headers
abbrev pub image_fault_of : Untidy → ImageFault
image_fault_of U.Flash = I.Store F.Flash
image_fault_of (U.Header bank) = I.Header bank

-- What each refusal says of the content: nothing is read as a mount would answer it, a header isn't steady, the node isn't whole.
abbrev pub IsWrongSo : List ℕ → ImageFault → Type 0
IsWrongSo content (I.Store F.WasReset) = ⊥
IsWrongSo content (I.Store F.Flash) = ⊥
IsWrongSo content (I.Store F.NoNode) = IsFoundAs content F.NoNode
IsWrongSo content (I.Store (F.Damaged n)) = IsFoundAs content (F.Damaged n)
IsWrongSo content (I.Header bank) = (bank ≤ 1) × (IsSteady (text_at content (1024 * bank)) → ⊥)
IsWrongSo content I.NotWhole = IsNotWhole content

-- the flash failed in this call; or it didn't, and its content is so
abbrev pub IsImageCause : Chip → Chip → ImageFault → Type 0
IsImageCause old new (I.Store F.Flash) = old.faults < new.faults
IsImageCause old new (I.Store F.WasReset) = ⊥
IsImageCause old new fault = (new.faults ≡ old.faults) × (IsTrue old.honest → IsWrongSo old.now fault)

abbrev pub IsRefusedByFlash : ImageFault → Type 0
IsRefusedByFlash (I.Store F.Flash) = ⊤
IsRefusedByFlash _ = ⊥
