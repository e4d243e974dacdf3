-- How a run ends over a flash: each status with its cause, and what is left; and what the run of a text tells.
use Rattle.std.specs.Prelude.{◌≡◌, ◌≢◌, ◌⊎◌, ℕ, ◌<◌, ◌≤◌, IsTrue, Option, Some, None, IfSome, IsSomeAnd}
use Rattle.command_words.specs.declared.commands.RunFlags.{RunFlags}
use Rattle.flash_model.specs.Chip.{Chip}
use Rattle.life_plans.specs.Plans.{script_of}
use Rattle.mesh_base.specs.Outside.{Rose}
use Rattle.report_writer.specs.Reporting.{Reports}
use Rattle.report_writer.specs.Writing.{SinkView}
use Rattle.run_steps.specs.Provisioned.{FailsEarly, format_by}
use Rattle.run_steps.specs.declared.status.Status.{Status}
use Rattle.run_steps.specs.declared.status.Status.TheVariants as S
use Rattle.script_definitions.specs.Reading.{Reading}
use Rattle.store_definitions.specs.Provisioning.{provisioned}
use Rattle.mesh_run.specs.Causes.{FailedFirst, IfScript, IsBeforeLives, IsDueBy, IsErasedFlash, IsSameFlash, IsScriptAnd, IsWrittenAt, WasErased}
use Rattle.mesh_run.specs.Kind.{MachineKind}
use Rattle.mesh_run.specs.Ran.{FrontFrom, FirstFrom, RanFrom}
use Rattle.mesh_run.specs.Reporting.{ReportsFront}

-- A run of what was read so ended with this status. `given` is the flash as it was, `left` what is left of it, and the last two are the sink's
-- counts of faults before the run and after it.
pub record EndsByCause {F : Type 0} (chip : F → Chip) (read : Reading) (given : Chip) (status : Status) (left : Option F) (before after : ℕ)
    : Type 0 where
  -- it is one of those that what was read asks for, but for want of memory
  pub due : IsDueBy read status ⊎ (status ≡ S.Memory)
  -- each has its cause
  pub write_fault : status ≡ S.WriteFault → Rose before after
  pub not_erased : (at : ℕ) → status ≡ S.NotErased at → IsSomeAnd left (λ f. IsWrittenAt at given (chip f))
  pub flash_fault : status ≡ S.FlashFault
      → IsSomeAnd left (λ f. given.faults < (chip f).faults) × (IsTrue given.steady → ⊥)
  pub early : status ≡ S.FlashFault
      → IsScriptAnd read (λ s. IsSomeAnd left (λ f. FailsEarly (provisioned (script_of s).node) given (chip f)))
  pub erased : (status ≡ S.Done) ⊎ (status ≡ S.WriteFault) → WasErased given
  -- where the sink doesn't fail and the flash is erased, the run of a script goes through, but for a fault of the flash
  pub complete : ¬ Rose before after → IsErasedFlash given
      → IfScript read (λ s. (status ≡ S.Done) ⊎ (status ≡ S.Memory) ⊎ (status ≡ S.FlashFault))
  -- and where the flash doesn't fail before its first life, no fault of it ends the run
  pub unfailed : ¬ Rose before after → IsErasedFlash given → IfSome left (λ f. ¬ FailedFirst given (chip f))
      → IfScript read (λ s. (status ≡ S.Done) ⊎ (status ≡ S.Memory))
  -- what becomes of the flash, and of the sink's count of faults
  pub handed_back : left ≡ None → status ≡ S.Memory
  pub frame : IfSome left (λ f. IsSameFlash given (chip f))
  pub no_fault : status ≢ S.WriteFault → after ≡ before
  pub later : before ≤ after

-- What is written is the report of a record of a run of the script that was read, by this kind of node, or a front of it. `view` is what a sink
-- shows of itself; `old` and `new` are the sink before the run and after it.
pub record IsReported {F K : Type 0} (chip : F → Chip) (kind : MachineKind) (read : Reading) (flags : RunFlags) (given : F) (status : Status)
    (left : Option F) (view : K → SinkView) (old new : K) : Type 0 where
  pub done : status ≡ S.Done
      → IsScriptAnd read
      (λ s. IsSomeAnd left
      (λ f. RanFrom chip kind (format_by flags.old) (script_of s) (Reports flags.hex) (chip given) (view old) f (view new)))
  pub front : status ≡ S.WriteFault
      → IsScriptAnd read
      (λ s. IsSomeAnd left
      (λ f. FrontFrom chip kind (format_by flags.old) (script_of s) (Reports flags.hex) (ReportsFront flags.hex) (chip given) (view old) f
      (view new)))
  -- the report of its first lives; or memory ran out before, and nothing was done
  pub whole : status ≡ S.Memory
      → ((new ≡ old) × (left ≡ Some given))
      ⊎ IsScriptAnd read
      (λ s. FirstFrom chip kind (format_by flags.old) (script_of s) (Reports flags.hex) (chip given) (view old) left (view new))
  pub nothing_written : IsBeforeLives status → new ≡ old
