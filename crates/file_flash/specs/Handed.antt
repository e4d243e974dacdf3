-- A flash whose writes were handed out.
use Rattle.std.specs.Prelude.{◌≡◌, ℕ, List}
use Rattle.flash_model.specs.Chip.{Chip}

-- It is as it was, but that its setting is one of this moment: saved is what is read.
pub record IsHandedOut (old new : Chip) : Type 0 where
  pub setting : new.setting ≡ record old.setting { saved = old.now; moment = old.moment; called = old.changes; programmed = old.octets }
  pub now : new.now ≡ old.now
  pub images : (c : List ℕ) → new.images c → old.images c
  pub left_over : (c : List ℕ) → old.images c → new.images c
  pub moment : new.moment ≡ old.moment
  pub since : (t : ℕ) (c : List ℕ) → new.since t c → old.since t c
  pub keeps : (t : ℕ) (c : List ℕ) → old.since t c → new.since t c
  pub honest : new.honest ≡ old.honest
  pub sure : new.sure ≡ old.sure
  pub faults : new.faults ≡ old.faults
  pub steady : new.steady ≡ old.steady
  pub changes : new.changes ≡ old.changes
  pub erases : new.erases ≡ old.erases
  pub octets : new.octets ≡ old.octets
  pub left : new.left ≡ old.left
  pub reads : new.reads ≡ old.reads
