-- A flash is formatted.
use Rattle.std.specs.Prelude.{◌≡◌, ◌≢◌, ◌⊎◌, ℕ, ◌<◌, List, slice_index, Option, Some, None}
use Rattle.mesh_base.specs.declared.slot.Slot.{Slot}
use Rattle.slot_definitions.specs.Slots.{recovered}
use Rattle.slot_journal.specs.Headers.{IsTidy}

abbrev pub IsErased : List ℕ → Type 0
IsErased content = (o : ℕ) → o < 65536 → slice_index content o ≡ 255

-- the first octet that isn't ff
pub record IsFirstWritten (content : List ℕ) (at : ℕ) : Type 0 where
  pub within : at < 65536
  pub written : slice_index content at ≢ 255
  pub before : (o : ℕ) → o < at → slice_index content o ≡ 255

-- what a scan of all octets finds
abbrev pub IsScanned : List ℕ → Option ℕ → Type 0
IsScanned content None = IsErased content
IsScanned content (Some at) = IsFirstWritten content at

-- the same in one slot
abbrev pub IsFirstSet : List ℕ → Option ℕ → Type 0
IsFirstSet text None = (k : ℕ) → k < 32 → slice_index text k ≡ 255
IsFirstSet text (Some at) = (at < 32) × (slice_index text at ≢ 255) × ((k : ℕ) → k < at → slice_index text k ≡ 255)

-- no bank counts yet, or the items are recovered
pub record IsFormatted (format : ℕ) (items : List Slot) (content : List ℕ) : Type 0 where
  pub tidy : IsTidy content
  pub either : (recovered content ≡ None) ⊎ (recovered content ≡ Some (record { format = format; slots = items }))
