-- What a refused call of a machine leaves.
use Rattle.std.specs.Prelude.{◌≡◌, ℕ, ◌<◌, true, false, List}
use Rattle.flash_model.specs.Chip.{Chip}
use Rattle.record_types.specs.declared.records.StoreRecord.{StoreRecord}
use Rattle.store_definitions.specs.Config.{config_of}
use Rattle.store_definitions.specs.Recovered.{IsRecovered}
use Rattle.machine_contract.specs.declared.answers.Hand.{Hand}
use Rattle.machine_contract.specs.declared.answers.Stop.{Stop}
use Rattle.machine_contract.specs.declared.answers.Stop.TheVariants as S
use Rattle.machine_contract.specs.declared.opening.StartFault.{StartFault}
use Rattle.machine_contract.specs.declared.opening.StartFault.TheVariants as F
use Rattle.machine_contract.specs.Opening.{EachRecovered, IsLeft, IsNodeFlash}
use Rattle.machine_contract.specs.View.{MachineView}
use Rattle.std.specs.Prelude.{[]}

-- a call that has this in hand closed the machine; the mark may have risen before
pub record Closes (hand : Hand) (old new : MachineView) (before after : Chip) : Type 0 where
  pub usable : old.closed ≡ false
  pub now : new ≡ record old { closed = true; hand = hand; mark = new.mark }
  pub faults : before.faults < after.faults

-- Closed and Memory leave the machine and the flash as they were.
abbrev pub IsRefused : {F : Type 0} → (F → Chip) → Hand → MachineView → MachineView → F → F → Stop → Type 0
IsRefused chip hand old new before after S.Closed = (old.closed ≡ true) × (new ≡ old) × (after ≡ before)
IsRefused chip hand old new before after S.Memory = (new ≡ old) × (after ≡ before)
IsRefused chip hand old new before after S.Flash = Closes hand old new (chip before) (chip after)

-- A life that isn't run leaves what it found: the records that were read, or records that say the same.
pub record IsUntouched (IsNodeImage : List ℕ → Type 0) (old new : Chip) : Type 0 where
  pub over : List StoreRecord
  pub read : IsRecovered old.now over
  pub node : IsNodeFlash IsNodeImage new
  pub left : EachRecovered new (IsLeft over [])

-- the records that are read say that there was a Node Reset
pub record WasReset (old : Chip) : Type 0 where
  pub over : List StoreRecord
  pub read : IsRecovered old.now over
  pub reset : (config_of over).reset ≡ true

-- the records that are read say a node that runs
pub record HasNode (old : Chip) : Type 0 where
  pub over : List StoreRecord
  pub read : IsRecovered old.now over
  pub runs : (config_of over).reset ≡ false

-- Why no machine was started: the flash failed in the call, or it did not, and a Node Reset is stored, or a node is, and memory ran out. In
-- each case the flash recovers what it did.
abbrev pub IsStartCause : (List ℕ → Type 0) → Chip → Chip → StartFault → Type 0
IsStartCause IsNodeImage old new F.Flash = (old.faults < new.faults) × IsUntouched IsNodeImage old new
IsStartCause IsNodeImage old new F.WasReset =
    WasReset old × IsUntouched IsNodeImage old new × (new.faults ≡ old.faults)
IsStartCause IsNodeImage old new F.Memory =
    HasNode old × IsUntouched IsNodeImage old new × (new.faults ≡ old.faults)
