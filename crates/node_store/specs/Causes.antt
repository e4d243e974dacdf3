-- When the calls on a store are refused.
use Rattle.std.specs.Prelude.{◌≡◌, ℕ, ◌+◌, ◌*◌, ◌<◌, None, Some, IsTrue, true, List, ⊤}
use Rattle.flash_model.specs.Chip.{Chip}
use Rattle.slot_definitions.specs.Slots.{counting, format_of, text_at}
use Rattle.record_types.specs.declared.records.StoreRecord.{StoreRecord}
use Rattle.node_records.specs.declared.persist.Persist.{Persist}
use Rattle.store_definitions.specs.Config.{config_of}
use Rattle.slot_journal.specs.View.{JournalView}
use Rattle.node_store.specs.declared.mounting.StoreFault.{StoreFault}
use Rattle.node_store.specs.declared.mounting.StoreFault.TheVariants as F
use Rattle.node_store.specs.Mounted.{AreSaid, IsRead, IsDamaged}

-- slot n is the first of the bank that counts that is damaged
pub record IsDamagedAt (content : List ℕ) (n : ℕ) : Type 0 where
  pub bank : ℕ
  pub counts : counting content ≡ Some bank
  pub damaged : IsDamaged content bank (format_of (text_at content (1024 * bank))) n

-- all slots are read, and a Reset record is among them
pub record IsReset (content : List ℕ) : Type 0 where
  pub records : List StoreRecord
  pub read : IsRead content records
  pub reset : (config_of records).reset ≡ true

-- What each refusal says of the content: no bank has a sound header; a slot is damaged; there was a Node Reset.
abbrev pub IsFoundAs : List ℕ → StoreFault → Type 0
IsFoundAs content F.Flash = ⊥
IsFoundAs content F.NoNode = counting content ≡ None
IsFoundAs content (F.Damaged n) = IsDamagedAt content n
IsFoundAs content F.WasReset = IsReset content

-- the flash failed in this call, or its content is so
abbrev pub IsStoreCause : Chip → Chip → StoreFault → Type 0
IsStoreCause old new F.Flash = old.faults < new.faults
IsStoreCause old new F.NoNode = IsTrue old.honest → IsFoundAs old.now F.NoNode
IsStoreCause old new (F.Damaged n) = IsTrue old.honest → IsFoundAs old.now (F.Damaged n)
IsStoreCause old new F.WasReset = IsTrue old.honest → IsFoundAs old.now F.WasReset

-- of reading the slots of a journal: the flash failed in this call, or a slot is damaged
abbrev pub IsReadCause : Chip → Chip → JournalView → StoreFault → Type 0
IsReadCause old new journal F.Flash = old.faults < new.faults
IsReadCause old new journal (F.Damaged n) = IsTrue old.honest → IsDamaged old.now journal.bank journal.version n
IsReadCause old new journal _ = ⊥

-- of reading slot n behind those that the value says: the same
abbrev pub IsSlotCause : Chip → Chip → JournalView → ℕ → Persist → StoreFault → Type 0
IsSlotCause old new journal n p F.Flash = old.faults < new.faults
IsSlotCause old new journal n p (F.Damaged m) =
    IsTrue old.honest → (k : ℕ) → n ≡ k + 1 → AreSaid old.now journal.bank journal.version k p
    → IsDamaged old.now journal.bank journal.version m
IsSlotCause old new journal n p _ = ⊥

abbrev pub IsNotFlash : StoreFault → Type 0
IsNotFlash F.Flash = ⊥
IsNotFlash _ = ⊤
