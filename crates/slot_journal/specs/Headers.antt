-- Headers that an erase that is cut can't make count.
use Rattle.std.specs.Prelude.{◌≡◌, ℕ, zero, suc, ◌*◌, ◌<◌, ◌≤◌, List, true, IsTrue, bit_and, slice_index}
use Rattle.flash_model.specs.Chip.{Chip}
use Rattle.flash_model.specs.Octets.{IsContent, IsTorn}
use Rattle.slot_definitions.specs.Slots.{text_at, blank_text, is_sound, generation_of, format_of}
use Rattle.slot_journal.specs.declared.header.Counting.{Counting}
use Rattle.slot_journal.specs.declared.tidying.Untidy.{Untidy}
use Rattle.slot_journal.specs.declared.tidying.Untidy.TheVariants as untidy

-- a header that was sound before, with this generation and format
pub record IsAsBefore (text torn : List ℕ) : Type 0 where
  pub sound : is_sound text ≡ true
  pub generation : generation_of torn ≡ generation_of text
  pub format : format_of torn ≡ format_of text

-- However an erase is cut, a header that is then sound was sound before, with its generation and format. (An erase only sets bits, and of
-- the formats 01 and 02 neither has the bits of the other.)
pub record IsSteady (text : List ℕ) : Type 0 where
  pub sound : (torn : List ℕ) → IsTorn text blank_text torn → is_sound torn ≡ true → IsAsBefore text torn

-- 65,536 octets whose headers an erase that is cut can't make count
pub record IsTidy (content : List ℕ) : Type 0 where
  pub whole : IsContent content
  pub steady : (bank : ℕ) → bank ≤ 1 → IsSteady (text_at content (1024 * bank))

-- no bit is set both in the generation and in its complement, octet by octet
abbrev pub AreApart : List ℕ → Type 0
AreApart text =
    (bit_and (slice_index text 2) (slice_index text 6) ≡ 0) × (bit_and (slice_index text 3) (slice_index text 7) ≡ 0)
    × (bit_and (slice_index text 4) (slice_index text 8) ≡ 0) × (bit_and (slice_index text 5) (slice_index text 9) ≡ 0)

-- of the headers of both banks that of this one
abbrev pub header_in : ℕ → List ℕ → List ℕ → List ℕ
header_in zero first second = first
header_in (suc bank) first second = second

-- the bank's header says so
pub record IsSaid (first second : List ℕ) (counting : Counting) : Type 0 where
  pub low : counting.bank ≤ 1
  pub generation : generation_of (header_in counting.bank first second) ≡ counting.generation
  pub format : format_of (header_in counting.bank first second) ≡ counting.format

-- the flash failed in this call; or it didn't, and an erase that is cut can make this bank's header count
abbrev pub IsUntidyCause : Chip → Chip → Untidy → Type 0
IsUntidyCause old new untidy.Flash = old.faults < new.faults
IsUntidyCause old new (untidy.Header bank) =
    (new.faults ≡ old.faults) × (bank ≤ 1) × (IsTrue old.honest → IsSteady (text_at old.now (1024 * bank)) → ⊥)
