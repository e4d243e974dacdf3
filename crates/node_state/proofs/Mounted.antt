-- A journal that is mounted where the records were read.
use Rattle.std.proofs.Common.{◌≡◌, ◌∙◌, ℕ, List, subst, arith}
use Rattle.std.specs.Prelude.{IsTrue}
use Rattle.flash_model.specs.Chip.{Chip}
use Rattle.slot_definitions.specs.Slots.{counting}
use Rattle.slot_journal.specs.Causes.{IsMountCause}
use Rattle.slot_journal.specs.declared.mounting.NoMount.{NoMount}
use Rattle.slot_journal.specs.declared.mounting.NoMount.TheVariants as M
use Rattle.node_store.specs.Images.{IsImageCause}
use Rattle.node_state.specs.Shows.{mount_fault}
use Rattle.std.specs.Prelude.{None}

pub cause_of : (old mid new : Chip) (fault : NoMount) → mid.faults ≡ old.faults → mid.honest ≡ old.honest → (IsTrue old.honest → mid.now ≡ old.now)
    → IsMountCause mid new fault → IsImageCause old new (mount_fault fault)
cause_of old mid new M.Flash none honest same cause = omega (arith, none, cause)
cause_of old mid new M.NoBank none honest same cause =
    (cause.0 ∙ none, λ is. subst (λ (o : List ℕ). counting o ≡ None) (same is) (cause.1 (honest ∙ is)))
