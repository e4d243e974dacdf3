-- A flash on which a node was provisioned, and one that failed before that.
use Rattle.std.specs.Prelude.{◌≡◌, ℕ, ◌+◌, ◌<◌, ◌≤◌, Bool, true, false, List, None}
use Rattle.flash_model.specs.Arming.{FailsOnce}
use Rattle.flash_model.specs.Chip.{Chip, Remembers, count_of}
use Rattle.machine_contract.specs.Opening.{EachRecovered, IsNodeFlash}
use Rattle.node_store.specs.Tie.{IsMade, IsNode}
use Rattle.record_types.specs.declared.records.StoreRecord.{StoreRecord}
use Rattle.slot_definitions.specs.Slots.{HasFormat}
use Rattle.slot_journal.specs.Format.{IsErased}

-- a life can be opened from each image, which recovers exactly these records
pub record IsProvisioned (chip : Chip) (records : List StoreRecord) : Type 0 where
  pub node : IsNodeFlash IsNode chip
  pub exactly : EachRecovered chip (λ found. found ≡ records)

-- the format that a node is provisioned in: 01 where it is to be the old one
abbrev pub format_by : Bool → ℕ
format_by true = 1
format_by false = 2

-- the bank that counts has that format, in each image
abbrev pub IsInFormat : ℕ → Chip → Type 0
IsInFormat format chip = (image : List ℕ) → chip.images image → HasFormat format image

-- The power of a flash was cycled, which left an erased image, and the node was provisioned on it in this format. The flash didn't fail, was
-- given no order to tear a call, and remembers its past. 8 program calls, of 128 octets together, were begun since then, and no erase call.
pub record WasProvisioned (format : ℕ) (records : List StoreRecord) (old new : Chip) : Type 0 where
  pub found : List ℕ
  pub was : old.images found
  pub erased : IsErased found
  pub made : IsProvisioned new records
  pub in_format : IsInFormat format new
  pub faults : new.faults ≡ old.faults
  pub setting : new.setting
      ≡ record { faults = old.faults; arm = None; saved = found; moment = new.setting.moment; called = 0; programmed = 0; cycles = old.setting.cycles + 1 }
  pub steady : new.steady ≡ old.steady
  pub calls : count_of new ≡ record { calls = 8; erases = 0; octets = 128 }
  pub past : Remembers old new

-- The flash failed before a node was provisioned on it, and so before any life: it failed since power was given, once, as none of its calls was
-- made behind that, and was given no order to tear a call. Where it was erased, an image recovers nothing, or what the node is provisioned with; else
-- it is as it was. At most 8 program calls, of at most 128 octets together, and no erase call, were begun since then, and none where it wasn't erased.
pub record FailsEarly (records : List StoreRecord) (old new : Chip) : Type 0 where
  pub failed : old.faults < new.faults
  pub once : FailsOnce old new
  pub found : List ℕ
  pub was : old.images found
  pub setting : new.setting
      ≡ record { faults = old.faults; arm = None; saved = found; moment = new.setting.moment; called = 0; programmed = 0; cycles = old.setting.cycles + 1 }
  pub calls : new.changes ≤ 8
  pub unerased : new.erases ≡ 0
  pub most_octets : new.octets ≤ 128
  pub no_calls : (IsErased found → ⊥) → count_of new ≡ record { calls = 0; erases = 0; octets = 0 }
  pub made : IsErased found → (image : List ℕ) → new.images image → IsMade records image
  pub stays : (IsErased found → ⊥) → (image : List ℕ) → new.images image → image ≡ found
