-- What is told of a file, where its text was handed over, or a front of it.
use Rattle.std.proofs.Common.{subst, sym, ◌≡◌, ℕ, List, Result, Ok, Err, OnOk, IfErr}
use Rattle.flash_model.specs.Chip.{Chip}
use Rattle.node_file.specs.declared.faults.OpenFault.{OpenFault}
use Rattle.node_file.specs.declared.faults.OpenFault.TheVariants as O
use Rattle.node_state.specs.Shows.{IsShowCause, Shows}
use Rattle.node_state.specs.declared.showing.ShowFault.{ShowFault}
use Rattle.node_state.specs.declared.showing.ShowFault.TheVariants as S
use Rattle.report_writer.specs.Handing.{HandedFront}
use Rattle.report_writer.specs.Writing.{SinkView}
use Rattle.meshnoded.specs.Answering.{IsTold, IsUntold}
use Rattle.meshnoded.specs.Failing.{open_failure, show_failure}
use Rattle.meshnoded.specs.declared.failure.Failure.{Failure}
use Rattle.meshnoded.specs.declared.failure.Failure.TheVariants as failures

module _ {F : Type 0} (chip : F → Chip) (opens : Chip → Type 0) (flash : F) (opened : opens (chip flash)) (text : List ℕ) (shows : Shows (chip flash).now text) where
  pub told : (wrote : List ℕ → Type 0) → wrote text → IsTold chip opens wrote
  told wrote written = record { flash = flash; opened = opened; text = text; shows = shows; written = written }

  pub told_ok : {T E : Type 0} (wrote : List ℕ → Type 0) (r : Result T E) → OnOk r (wrote text) → OnOk r (IsTold chip opens wrote)
  told_ok wrote (Ok x) written = told wrote written
  told_ok wrote (Err e) h = tt

  pub untold : {T : Type 0} (refuses : OpenFault → Type 0) (old new : SinkView) (r : Result T Failure)
      → IfErr r (λ e. (e ≡ failures.Write) × HandedFront text old new) → IfErr r (IsUntold chip opens refuses old new)
  untold refuses old new (Ok x) h = tt
  untold refuses old new (Err e) (is, front) = subst (λ e. IsUntold chip opens refuses old new e) (sym is) (told (λ t. HandedFront t old new) front)

module _ {F : Type 0} (chip : F → Chip) (opens : Chip → Type 0) (refuses : OpenFault → Type 0) (old new : SinkView) where
  -- the file wasn't opened
  pub unopened : new ≡ old → (fault : OpenFault) → refuses fault → IsUntold chip opens refuses old new (open_failure fault)
  unopened wrote O.Memory h = wrote
  unopened wrote O.Missing h = (h, wrote)
  unopened wrote O.NotAFile h = (h, wrote)
  unopened wrote O.SecondName h = (h, wrote)
  unopened wrote O.Locked h = (h, wrote)
  unopened wrote (O.Size octets) h = (h, wrote)
  unopened wrote (O.Image image) h = (h, wrote)
  unopened wrote (O.System error) h = (h, wrote)

  -- what it stores isn't told
  pub unshown : new ≡ old → (flash left : F) → opens (chip flash) → (fault : ShowFault) → IsShowCause (chip flash) (chip left) fault
      → IsUntold chip opens refuses old new (show_failure fault)
  unshown wrote flash left opened (S.Image fault) h = (record { flash = flash; opened = opened; left = left; cause = h }, wrote)
  unshown wrote flash left opened S.Memory h = wrote
