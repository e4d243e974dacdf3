-- What the program answers to the words that it was started with.
use Rattle.std.specs.Prelude.{◌≡◌, ◌≢◌, ◌⊎◌, ℕ, ◌<◌, ◌≤◌, List, length, Option, Some, None, IfSome, IsSomeAnd}
use Rattle.std.specs.Io.KnownBytes.{IsAtEnd}
use Rattle.audit_definitions.specs.Input.{IsFirstOther}
use Rattle.command_words.specs.declared.commands.Command.{Command}
use Rattle.command_words.specs.declared.commands.Command.TheVariants as C
use Rattle.command_words.specs.declared.commands.NodeKind.{NodeKind}
use Rattle.command_words.specs.declared.commands.RunFlags.{RunFlags}
use Rattle.flash_model.specs.Chip.{Chip}
use Rattle.mesh_base.specs.Outside.{Rose}
use Rattle.mesh_run.specs.Causes.{IfScript, IsBeforeLives, IsDue, IsFromFlash, IsGenerate, IsReadingStop, IsRunAnd}
use Rattle.mesh_run.specs.Kind.{grammar_of}
use Rattle.report_writer.specs.Writing.{SinkView}
use Rattle.run_steps.specs.Audited.{IsAuditEnd}
use Rattle.run_steps.specs.Reads.{ReadsMoreThan}
use Rattle.run_steps.specs.declared.status.Status.{Status}
use Rattle.run_steps.specs.declared.status.Status.TheVariants as S
use Rattle.script_definitions.specs.Reading.{reading}
use Rattle.script_definitions.specs.Reading.Reading.{Fails}
use Rattle.meshnode.specs.Doing.{IsBroken, IsDone, IsShort}

module _ {F R K : Type 0} (chip : F → Chip) (left : R → Option (List ℕ)) (source_faults : R → ℕ) (view : K → SinkView) (sink_faults : K → ℕ) where
  -- The words were a command or none, and this status was answered: `old` and `new` are the source before and after it, `before` and `after` the
  -- sink. The fields say what the clauses of `run` of `mesh_run` do over a flash in memory, which is erased and steady: `steady` is `flash_fault`,
  -- `erased` is `not_erased`, `run` and `summary_run` are `complete` and `summary_complete`; `done`, `front` and `whole` are those of `run`, `audit` and
  -- `gen` together. Any other is the clause of its name.
  pub record IsAnswered (command : Option Command) (status : Status) (old new : R) (before after : K) : Type 0 where
    -- Each status has its cause, in this order.
    pub usage : status ≡ S.Usage → command ≡ None
    pub no_command : command ≡ None → (status ≡ S.Usage) ⊎ (status ≡ S.Memory)
    pub read_fault : status ≡ S.ReadFault → Rose (source_faults old) (source_faults new)
    pub too_long : status ≡ S.TooLong → ReadsMoreThan (left old) (left new) 4194304
    pub script : (line rule : ℕ) → status ≡ S.Script line rule
        → IsRunAnd command (λ kind. IfSome (left old) (λ text. reading (grammar_of kind) text ≡ Fails line rule))
    pub steady : status ≢ S.FlashFault
    pub erased : (at : ℕ) → status ≢ S.NotErased at
    pub report : (line : ℕ) → status ≡ S.Report line → IfSome (left old) (λ text. IsFirstOther text line)
    pub write_fault : status ≡ S.WriteFault → Rose (sink_faults before) (sink_faults after)
    -- Where nothing fails, it is the one that the octets of the source ask for; and a script is run.
    pub due : (kind : NodeKind) (flags : RunFlags) → command ≡ Some (C.Run kind flags)
        → IfSome (left old) (λ text. IsDue (grammar_of kind) text status)
    pub run : (kind : NodeKind) (flags : RunFlags) → command ≡ Some (C.Run kind flags)
        → ¬ Rose (source_faults old) (source_faults new) → ¬ Rose (sink_faults before) (sink_faults after)
        → IfSome (left old)
        (λ text. length text ≤ 4194304 → IfScript (reading (grammar_of kind) text) (λ s. (status ≡ S.Done) ⊎ (status ≡ S.Memory)))
    pub verdict_due : command ≡ Some C.Audit
        → ¬ Rose (source_faults old) (source_faults new) → ¬ Rose (sink_faults before) (sink_faults after)
        → IfSome (left old) (λ text. length text ≤ 4194304 → IsAuditEnd status)
    pub verdict_too_long : command ≡ Some C.Audit
        → IfSome (left old) (λ text. 4194304 < length text → (status ≡ S.ReadFault) ⊎ (status ≡ S.TooLong) ⊎ (status ≡ S.Memory))
    pub summary_due : IsGenerate command → IsFromFlash status ⊎ (status ≡ S.Memory)
    pub summary_run : IsGenerate command → ¬ Rose (sink_faults before) (sink_faults after) → (status ≡ S.Done) ⊎ (status ≡ S.Memory)
    -- What is written is what the command asks for: all of it, a front, or where there is no memory what was told of first lives.
    pub done : status ≡ S.Done → IsSomeAnd command (IsDone chip (left old) (view before) (view after))
    pub front : status ≡ S.WriteFault → IsSomeAnd command (IsBroken chip (left old) (view before) (view after))
    pub whole : status ≡ S.Memory → IfSome command (IsShort chip view (left old) before after)
    pub nothing_written : IsBeforeLives status → after ≡ before
    -- What is read is all that there was.
    pub nothing_read : status ≡ S.Usage → new ≡ old
    pub unread : IsGenerate command → new ≡ old
    pub read_whole : ¬ IsGenerate command → ¬ IsReadingStop status → IsAtEnd (left new)
    -- No fault is swallowed, and counts of faults never fall.
    pub no_source_fault : status ≢ S.ReadFault → source_faults new ≡ source_faults old
    pub no_sink_fault : status ≢ S.WriteFault → sink_faults after ≡ sink_faults before
    pub source_later : source_faults old ≤ source_faults new
    pub sink_later : sink_faults before ≤ sink_faults after
