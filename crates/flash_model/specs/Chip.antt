-- A flash as contracts see it: what is read, what a power cut leaves, the moments so far, and counts.
use Rattle.std.specs.Prelude.{◌≡◌, ◌⊎◌, ℕ, ◌≤◌, List, Bool, Option, IsTrue}
use Rattle.flash_model.specs.Octets.{IsTorn}

-- The order to tear a call: the one after `calls` more program and erase calls, under `mask`. `changes` is what was counted when it was given.
pub record Arm : Type 0 where
  pub calls : ℕ
  pub mask : ℕ
  pub changes : ℕ

-- What was so when this setting was made: at the last power cycle, or when the writes of a flash were handed out last, or when it was made if
-- there was neither. No other call changes it, but for the one arm.
pub record Setting : Type 0 where
  -- the count of faults at the last power cycle, or when the flash was made
  pub faults : ℕ
  -- the one arm since then
  pub arm : Option Arm
  -- what a read gave
  pub saved : List ℕ
  -- the moment
  pub moment : ℕ
  -- how many program and erase calls were counted then: 0 behind a power cycle
  pub called : ℕ
  -- how many octets the program calls among them were given: 0 behind a power cycle
  pub programmed : ℕ
  -- how often power was cycled till now
  pub cycles : ℕ

pub record Chip : Type 1 where
  -- what a read gives
  pub now : List ℕ
  -- what a power cut at this moment may leave
  pub images : List ℕ → Type 0
  -- this moment, as a number that doesn't fall
  pub moment : ℕ
  -- what a power cut at some moment from that one on might have left
  pub since : ℕ → List ℕ → Type 0
  -- it keeps to the rules of content below
  pub honest : Bool
  -- it doesn't fail
  pub sure : Bool
  -- how often it has failed
  pub faults : ℕ
  -- it fails by an arm alone
  pub steady : Bool
  pub setting : Setting
  -- program and erase calls begun since the last power cycle, at most ffffffff
  pub changes : ℕ
  -- how many of them were erase calls, at most ffffffff
  pub erases : ℕ
  -- how many octets the program calls among them were given, at most ffffffff
  pub octets : ℕ
  -- how many program and erase calls still come before the torn one
  pub left : ℕ
  -- read calls begun since the last power cycle, at most ffffffff
  pub reads : ℕ

-- how many program and erase calls were begun since the last power cycle, how many of them were erase calls, and how many octets the others were
-- given, each at most ffffffff
pub record CallCount : Type 0 where
  pub calls : ℕ
  pub erases : ℕ
  pub octets : ℕ

abbrev pub count_of : Chip → CallCount
count_of chip = record { calls = chip.changes; erases = chip.erases; octets = chip.octets }

-- what a cut may leave within a call that is to change the content so
abbrev pub Cut : (List ℕ → List ℕ) → (List ℕ → Type 0) → List ℕ → Type 0
Cut change images c = (d : List ℕ) × images d × IsTorn d (change d) c

-- Time goes on: a cut since t might have left what it might have left before, or what is allowed now.
pub record Elapses (old new : Chip) (allowed : List ℕ → Type 0) : Type 0 where
  pub later : old.moment ≤ new.moment
  pub nothing_else : (t : ℕ) (c : List ℕ) → t ≤ old.moment → new.since t c → old.since t c ⊎ allowed c
  pub keeps : (t : ℕ) (c : List ℕ) → t ≤ old.moment → old.since t c → new.since t c

-- A power cut at any moment since old leaves content that has P.
pub record LeavesOnly (old new : Chip) (P : List ℕ → Type 0) : Type 0 where
  pub later : old.moment ≤ new.moment
  pub each : (c : List ℕ) → new.since old.moment c → P c
  -- for a run that began earlier
  pub before : (t : ℕ) (c : List ℕ) → t ≤ old.moment → new.since t c → old.since t c ⊎ P c

-- the content is done with so: it is read so, and every image is an old one so changed
pub record IsDone (change : List ℕ → List ℕ) (old new : Chip) : Type 0 where
  pub reads : new.now ≡ change old.now
  pub durable : (c : List ℕ) → new.images c → (d : List ℕ) × old.images d × (c ≡ change d)

-- whether the call was cut or not, these are the images now, and at each moment of the call
pub record IsCut (change : List ℕ → List ℕ) (old new : Chip) : Type 0 where
  pub images : (c : List ℕ) → new.images c → Cut change old.images c
  pub time : Elapses old new (Cut change old.images)

-- the content stays
pub record Stays (old new : Chip) : Type 0 where
  pub now : new.now ≡ old.now
  pub images : (c : List ℕ) → new.images c → old.images c
  pub time : Elapses old new old.images

-- The past stays: what a cut at some earlier moment might have left, it might still have left.
pub record Remembers (old new : Chip) : Type 0 where
  pub later : old.moment ≤ new.moment
  pub keeps : (t : ℕ) (c : List ℕ) → t ≤ old.moment → old.since t c → new.since t c

-- What a call leaves of every flash, honest or not. A sure one stays sure, and doesn't fail.
pub record Keeps (old new : Chip) : Type 0 where
  pub honest : new.honest ≡ old.honest
  pub steady : new.steady ≡ old.steady
  pub setting : new.setting ≡ old.setting
  pub later : old.faults ≤ new.faults
  pub sure : IsTrue old.sure → IsTrue new.sure × (new.faults ≡ old.faults)
  pub past : Remembers old new

-- what a bench leaves of every flash when it arms it or cycles its power
pub record KeepsCount (old new : Chip) : Type 0 where
  pub honest : new.honest ≡ old.honest
  pub steady : new.steady ≡ old.steady
  pub faults : new.faults ≡ old.faults
  pub past : Remembers old new

-- an honest flash whose only image is what is read
pub record IsFresh (chip : Chip) : Type 0 where
  pub honest : IsTrue chip.honest
  pub only : (c : List ℕ) → chip.images c → c ≡ chip.now
