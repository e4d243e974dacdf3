-- A journal and the flash that it came from.
use Rattle.std.specs.Prelude.{◌≡◌, ◌≢◌, ◌⊎◌, ℕ, ◌+◌, ◌*◌, ◌<◌, ◌≤◌, List, [], ◌∷◌, ◌++◌, false, Option, Some, option_map}
use Rattle.mesh_base.specs.declared.slot.Slot.{Slot}
use Rattle.flash_model.specs.Chip.{Chip, IsFresh}
use Rattle.slot_definitions.specs.Slots.{text_at, blank_text, generation_of, format_of, counting, Held, IsUsed, recovered}
use Rattle.slot_journal.specs.Headers.{IsTidy}
use Rattle.slot_journal.specs.View.{JournalView}

-- what a mount finds on a flash whose content stays: the bank that counts, what its header says, and its used slots
pub record IsMounted (content : List ℕ) (journal : JournalView) : Type 0 where
  pub usable : journal.closed ≡ false
  pub low : journal.bank ≤ 1
  pub bank : counting content ≡ Some journal.bank
  pub generation : generation_of (text_at content (1024 * journal.bank)) ≡ journal.generation
  pub version : format_of (text_at content (1024 * journal.bank)) ≡ journal.version
  pub used : IsUsed content journal.bank journal.used

-- The flash is the one that this journal came from, and only this journal has changed it since: what is read is its
-- one image, and a mount would find this journal. Mounting and formatting give it, and each call that succeeds keeps it.
pub record IsJournalOf (chip : Chip) (journal : JournalView) : Type 0 where
  pub fresh : IsFresh chip
  pub tidy : IsTidy chip.now
  pub mounted : IsMounted chip.now journal

abbrev pub with_last : Slot → Option Held → Option Held
with_last slot held = option_map (λ h. record { format = h.format; slots = h.slots ++ slot ∷ [] }) held

-- what was held before, or this with the new slot last
pub record IsAppended (held : Option Held) (slot : Slot) (content : List ℕ) : Type 0 where
  pub tidy : IsTidy content
  pub either : (recovered content ≡ held) ⊎ (recovered content ≡ with_last slot held)

-- what was held before, or these items in format 02
pub record IsCompacted (held : Option Held) (items : List Slot) (content : List ℕ) : Type 0 where
  pub tidy : IsTidy content
  pub either : (recovered content ≡ held) ⊎ (recovered content ≡ Some (record { format = 2; slots = items }))

-- the used slots up to slot n
pub record IsUsedBelow (content : List ℕ) (bank n used : ℕ) : Type 0 where
  pub few : used < n
  pub blank : (m : ℕ) → used < m → m < n → text_at content (1024 * bank + m) ≡ blank_text
  pub last : 0 < used → text_at content (1024 * bank + used) ≢ blank_text
