-- A text that tells what a flash stores.
use Rattle.std.specs.Prelude.{◌≡◌, ℕ, List, length, Some}
use Rattle.flash_model.specs.Chip.{Chip}
use Rattle.node_records.specs.declared.persist.Persist.{Persist}
use Rattle.node_store.specs.Images.{IsImageCause}
use Rattle.record_types.specs.declared.records.StoreRecord.{StoreRecord}
use Rattle.slot_definitions.specs.Slots.{recovered, slots_to}
use Rattle.store_definitions.specs.Config.{config_of}
use Rattle.node_store.specs.Mounted.{IsRead}
use Rattle.node_records.specs.Meaning.{IsMeaningOf}
use Rattle.node_store.specs.declared.images.ImageFault.{ImageFault}
use Rattle.node_store.specs.declared.images.ImageFault.TheVariants as I
use Rattle.node_store.specs.declared.mounting.StoreFault.TheVariants as N
use Rattle.slot_journal.specs.declared.mounting.NoMount.{NoMount}
use Rattle.slot_journal.specs.declared.mounting.NoMount.TheVariants as M
use Rattle.node_state.specs.State.{shown_of, state_text_of}
use Rattle.node_state.specs.declared.showing.ShowFault.{ShowFault}
use Rattle.node_state.specs.declared.showing.ShowFault.TheVariants as F

-- The text is that of the records that an image recovers: of what they say, of a replay list that gives each source its entry, and of the used
-- slots of the bank that counts.
pub record Shows (content : List ℕ) (text : List ℕ) : Type 0 where
  pub records : List StoreRecord
  pub read : IsRead content records
  pub value : Persist
  pub meaning : IsMeaningOf records value
  pub bank : ℕ
  pub slots : ℕ
  pub format : ℕ
  pub held : recovered content ≡ Some (record { format = format; slots = slots_to content bank slots })
  pub is : text ≡ state_text_of (shown_of (config_of records) (length value.replay) slots format)

-- why nothing is told: no node is read, or there was no memory
abbrev pub IsShowCause : Chip → Chip → ShowFault → Type 0
IsShowCause old new (F.Image fault) = IsImageCause old new fault
IsShowCause old new F.Memory = new.faults ≡ old.faults

-- which refusal stands for a journal that isn't mounted
abbrev pub mount_fault : NoMount → ImageFault
mount_fault M.Flash = I.Store N.Flash
mount_fault M.NoBank = I.Store N.NoNode
