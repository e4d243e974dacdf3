-- What commands answer, and what was written of it.
use Rattle.std.specs.Prelude.{◌≡◌, ℕ, List, Option}
use Rattle.daemon_words.specs.Numbers.{provision_of}
use Rattle.daemon_words.specs.declared.keys.NodeKeys.{NodeKeys}
use Rattle.daemon_words.specs.declared.numbers.NodeNumbers.{NodeNumbers}
use Rattle.flash_model.specs.Chip.{Chip}
use Rattle.node_file.specs.declared.faults.OpenFault.{OpenFault}
use Rattle.node_state.specs.Shows.{IsShowCause, Shows}
use Rattle.node_state.specs.declared.showing.ShowFault.TheVariants as S
use Rattle.node_store.specs.Tie.{IsNode}
use Rattle.node_store.specs.declared.images.ImageFault.{ImageFault}
use Rattle.node_store.specs.declared.provision.Provision.{Provision}
use Rattle.report_writer.specs.Handing.{HandedFront}
use Rattle.report_writer.specs.Writing.{SinkView}
use Rattle.meshnoded.specs.Reading.{HasKeys}
use Rattle.meshnoded.specs.declared.failure.Failure.{Failure}
use Rattle.meshnoded.specs.declared.failure.Failure.TheVariants as F

-- the file was opened, and holds a node or one that was reset
pub record IsOpened {F : Type 0} (chip : F → Chip) (opens : Chip → Type 0) : Type 0 where
  pub flash : F
  pub opened : opens (chip flash)
  pub node : IsNode (chip flash).now

-- a file was made of a node with these numbers, and with the keys that the source had
pub record IsMade (makes : Provision → Type 0) (numbers : NodeNumbers) (old new : Option (List ℕ)) : Type 0 where
  pub keys : NodeKeys
  pub read : HasKeys old new keys
  pub made : makes (provision_of numbers keys)

-- the file was opened, and the text that was written tells what it stores
pub record IsTold {F : Type 0} (chip : F → Chip) (opens : Chip → Type 0) (wrote : List ℕ → Type 0) : Type 0 where
  pub flash : F
  pub opened : opens (chip flash)
  pub text : List ℕ
  pub shows : Shows (chip flash).now text
  pub written : wrote text

-- the file was opened, and what it stores isn't a node's, or the flash failed
pub record IsUnshown {F : Type 0} (chip : F → Chip) (opens : Chip → Type 0) (fault : ImageFault) : Type 0 where
  pub flash : F
  pub opened : opens (chip flash)
  pub left : F
  pub cause : IsShowCause (chip flash) (chip left) (S.Image fault)

-- It wasn't told. Where the sink failed a front of that text was written, else nothing: the file was refused, or what it stores, or there was no
-- memory.
abbrev pub IsUntold : {F : Type 0} → (F → Chip) → (Chip → Type 0) → (OpenFault → Type 0) → SinkView → SinkView → Failure → Type 0
IsUntold chip opens refuses old new F.Write = IsTold chip opens (λ text. HandedFront text old new)
IsUntold chip opens refuses old new (F.Open fault) = refuses fault × (new ≡ old)
IsUntold chip opens refuses old new (F.Show fault) = IsUnshown chip opens fault × (new ≡ old)
IsUntold chip opens refuses old new F.Memory = new ≡ old
IsUntold chip opens refuses old new _ = ⊥
