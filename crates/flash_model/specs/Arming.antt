-- How a steady flash fails: at the call that an arm tears, and at each call from then on until the power cycle.
use Rattle.std.specs.Prelude.{◌≡◌, ◌⊎◌, ℕ, ◌+◌, ◌-◌, ◌<◌, ◌≤◌, min, List, Bool, true, false, ◌==◌, nat_lt, Option, Some, None, Result, IsOk, IsErr, IsTrue, ⊤}
use Rattle.flash_model.specs.Octets.{IsMixed}
use Rattle.flash_model.specs.Chip.{Chip, Arm}

-- so many program and erase calls were begun between these two moments
abbrev pub Begins : ℕ → Chip → Chip → Type 0
Begins n old new = new.changes ≡ min (old.changes + n) 4294967295

-- at most so many were
abbrev pub BeginsAtMost : ℕ → Chip → Chip → Type 0
BeginsAtMost n old new = new.changes ≤ old.changes + n

-- so many of them were erase calls
abbrev pub Erases : ℕ → Chip → Chip → Type 0
Erases n old new = new.erases ≡ min (old.erases + n) 4294967295

-- at most so many were
abbrev pub ErasesAtMost : ℕ → Chip → Chip → Type 0
ErasesAtMost n old new = new.erases ≤ old.erases + n

-- program calls were given so many octets between them
abbrev pub Programs : ℕ → Chip → Chip → Type 0
Programs n old new = new.octets ≡ min (old.octets + n) 4294967295

-- at most so many
abbrev pub ProgramsAtMost : ℕ → Chip → Chip → Type 0
ProgramsAtMost n old new = new.octets ≤ old.octets + n

-- at most so many read calls were begun between them
abbrev pub ReadsAtMost : ℕ → Chip → Chip → Type 0
ReadsAtMost n old new = new.reads ≤ old.reads + n

-- it failed at most once between them: one call did, at most
abbrev pub FailsOnce : Chip → Chip → Type 0
FailsOnce old new = new.faults ≤ old.faults + 1

-- it has failed since the last power cycle
abbrev pub is_cut : Chip → Bool
is_cut chip = nat_lt chip.setting.faults chip.faults

abbrev pub mask_of : Bool → Option Arm → Option ℕ
mask_of true (Some arm) = Some arm.mask
mask_of true None = None
mask_of false arm = None

-- the mask under which the next program or erase call is torn
abbrev pub tearing : Chip → Option ℕ
tearing chip = mask_of (chip.left == 0) chip.setting.arm

module _ {T E : Type 0} where
  -- a program or erase call after the cut; the torn one; any other
  abbrev pub Follows : Bool → Option ℕ → (List ℕ → List ℕ) → List ℕ → List ℕ → Result T E → Type 0
  Follows true mask change old new result = IsErr result × (new ≡ old)
  Follows false (Some mask) change old new result = IsErr result × IsMixed mask old (change old) new
  Follows false None change old new result = IsOk result

  -- a program or erase call of a steady flash
  pub record ObeysArm (change : List ℕ → List ℕ) (old new : Chip) (result : Result T E) : Type 0 where
    pub course : Follows (is_cut old) (tearing old) change old.now new.now result
    pub counted : Begins 1 old new
    pub nearer : new.left ≡ old.left - 1

  -- a read of a steady flash: it fails exactly after the cut
  pub record ObeysCut (old new : Chip) (result : Result T E) : Type 0 where
    pub cut : is_cut old ≡ true → IsErr result
    pub whole : is_cut old ≡ false → IsOk result
    pub changes : new.changes ≡ old.changes
    pub left : new.left ≡ old.left

-- there is an arm, and its torn call was begun
abbrev pub IsReached : Option Arm → ℕ → Type 0
IsReached None changes = ⊥
IsReached (Some arm) changes = (arm.changes + arm.calls < changes) ⊎ (changes ≡ 4294967295)

-- No more calls were begun since an arm than come before the torn one, and one more for each that failed since. So where none failed the torn one
-- wasn't begun, as long as the count isn't ffffffff; and where one did, it was the last that was begun.
abbrev pub IsWithin : Option Arm → ℕ → ℕ → Type 0
IsWithin None failed changes = ⊤
IsWithin (Some arm) failed changes = changes ≤ arm.changes + arm.calls + failed

-- how often it has failed since the last power cycle
abbrev pub failed_since : Chip → ℕ
failed_since chip = chip.faults - chip.setting.faults

-- an order to tear a call is carried out by a steady flash: it has begun no calls behind the torn one but such that failed
abbrev pub IsCarriedOut : Chip → Type 0
IsCarriedOut chip = IsTrue chip.steady → IsWithin chip.setting.arm (failed_since chip) chip.changes

-- the torn call of an arm was the last one that was begun, or the count had no room for it
abbrev pub IsTornLast : Option Arm → ℕ → Type 0
IsTornLast None changes = ⊥
IsTornLast (Some arm) changes = changes ≡ min (arm.changes + arm.calls + 1) 4294967295

-- a steady flash has failed since the last power cycle only by an arm
abbrev pub IsExplained : Chip → Type 0
IsExplained chip = IsTrue chip.steady → chip.setting.faults < chip.faults → IsReached chip.setting.arm chip.changes
