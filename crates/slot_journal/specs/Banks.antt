-- What erasing a bank and filling it leave, and what a cut leaves of it.
use Rattle.std.specs.Prelude.{◌≡◌, ◌⊎◌, ℕ, ◌+◌, ◌*◌, ◌<◌, ◌≤◌, List, slice_index, slice_index_or}
use Rattle.mesh_base.specs.declared.slot.Slot.{Slot}
use Rattle.flash_model.specs.Octets.{IsContent, IsTorn}
use Rattle.flash_model.specs.Chip.{Chip, IsFresh}
use Rattle.slot_definitions.specs.Slots.{text_at, text_of, blank_text}

-- no slot outside this bank differs
abbrev pub StaysOutside : ℕ → List ℕ → List ℕ → Type 0
StaysOutside bank old new =
    (n : ℕ) → n < 2048 → (n < 1024 * bank) ⊎ (1024 * bank + 1024 ≤ n) → text_at new n ≡ text_at old n

-- what a cut leaves while a bank is erased: of its header each bit is the old one or 1
pub record IsErasing (bank : ℕ) (old content : List ℕ) : Type 0 where
  pub whole : IsContent content
  pub outside : StaysOutside bank old content
  pub header : IsTorn (text_at old (1024 * bank)) blank_text (text_at content (1024 * bank))

-- the first k sectors of a bank were erased, and nothing else
pub record IsErasedTo (bank k : ℕ) (old : List ℕ) (chip : Chip) : Type 0 where
  pub fresh : IsFresh chip
  pub whole : IsContent chip.now
  pub inside : (o : ℕ) → 32768 * bank ≤ o → o < 32768 * bank + 4096 * k → slice_index chip.now o ≡ 255
  pub outside : (o : ℕ) → (o < 32768 * bank) ⊎ (32768 * bank + 4096 * k ≤ o)
      → slice_index chip.now o ≡ slice_index old o

-- what a cut leaves while a bank is filled: its header is blank
pub record IsBankBare (bank : ℕ) (old content : List ℕ) : Type 0 where
  pub whole : IsContent content
  pub outside : StaysOutside bank old content
  pub header : text_at content (1024 * bank) ≡ blank_text

-- k items were written into a bank, each into its slot, and all its other slots are blank
pub record IsBankFilled (bank : ℕ) (items : List Slot) (k : ℕ) (old : List ℕ) (chip : Chip) : Type 0 where
  pub fresh : IsFresh chip
  pub whole : IsContent chip.now
  pub outside : StaysOutside bank old chip.now
  pub header : text_at chip.now (1024 * bank) ≡ blank_text
  pub written : (m : ℕ) (d : Slot) → m < k
      → text_at chip.now (1024 * bank + (m + 1)) ≡ text_of (slice_index_or items m d)
  pub behind : (n : ℕ) → k < n → n ≤ 1023 → text_at chip.now (1024 * bank + n) ≡ blank_text
