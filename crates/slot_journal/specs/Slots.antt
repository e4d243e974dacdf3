-- What writing one slot leaves, and what a cut leaves of it.
use Rattle.std.specs.Prelude.{◌≡◌, ◌≢◌, ◌⊎◌, ℕ, ◌<◌, List}
use Rattle.flash_model.specs.Octets.{IsContent}
use Rattle.slot_definitions.specs.Slots.{text_at, gate_of}

-- no slot but n differs
abbrev pub IsElsewhere : ℕ → List ℕ → List ℕ → Type 0
IsElsewhere n old new = (m : ℕ) → m < 2048 → m ≢ n → text_at new m ≡ text_at old m

-- the slot n was written
pub record IsWritten (n : ℕ) (text old new : List ℕ) : Type 0 where
  pub whole : IsContent new
  pub elsewhere : IsElsewhere n old new
  pub here : text_at new n ≡ text

-- what a cut leaves while the blank slot n is written: its gate doesn't count, or the slot is whole
pub record IsSlotWrite (n : ℕ) (text old content : List ℕ) : Type 0 where
  pub whole : IsContent content
  pub elsewhere : IsElsewhere n old content
  pub here : (gate_of (text_at content n) ≢ 0) ⊎ (text_at content n ≡ text)
