-- What the program did that was asked for, over a flash in memory.
use Rattle.std.specs.Prelude.{◌≡◌, ◌⊎◌, ℕ, false, List, Option, IfSome}
use Rattle.command_words.specs.declared.commands.Command.{Command}
use Rattle.command_words.specs.declared.commands.Command.TheVariants as C
use Rattle.flash_model.specs.Chip.{Chip}
use Rattle.life_plans.specs.Plans.{script_of}
use Rattle.mesh_run.specs.Causes.{IsErasedFlash, IsScriptAnd}
use Rattle.mesh_run.specs.Kind.{grammar_of, machines_of, node_kind}
use Rattle.mesh_run.specs.Ran.{FirstFrom, FirstOrAllFrom, FrontFrom, RanFrom}
use Rattle.mesh_run.specs.Reporting.{ReportsFront, Unwritten}
use Rattle.report_writer.specs.Reporting.{Reports}
use Rattle.report_writer.specs.Writing.{SinkView}
use Rattle.run_steps.specs.Audited.{Audited, AuditedFront}
use Rattle.run_steps.specs.Provisioned.{format_by}
use Rattle.run_summary.specs.Telling.{Summarizes, SummarizesFront}
use Rattle.script_definitions.specs.Reading.{reading}
use Rattle.script_generator.specs.Generated.{generated}

module _ {F : Type 0} (chip : F → Chip) where
  -- there was an erased flash, and what was done over it left another
  pub record OverErased (Did : F → F → Type 0) : Type 0 where
    pub given : F
    pub erased : IsErasedFlash (chip given)
    pub left : F
    pub did : Did given left

  -- and perhaps none is left
  pub record FromErased (Did : F → Option F → Type 0) : Type 0 where
    pub given : F
    pub erased : IsErasedFlash (chip given)
    pub left : Option F
    pub did : Did given left

  -- A command was done: the report of a run of the script that the source had was written, the line of the verdict on the log that it had, or the
  -- summary of a run of the script that is generated.
  abbrev pub IsDone : Option (List ℕ) → SinkView → SinkView → Command → Type 0
  IsDone read before after (C.Run kind flags) = IfSome read
      (λ text. IsScriptAnd (reading (grammar_of kind) text)
      (λ s. OverErased (λ given left. RanFrom chip (machines_of kind) (format_by flags.old) (script_of s) (Reports flags.hex) (chip given) before left after)))
  IsDone read before after C.Audit = IfSome read (λ text. Audited text before after)
  IsDone read before after (C.Generate count start) =
      OverErased (λ given left. RanFrom chip node_kind (format_by false) (script_of (generated count start)) Summarizes (chip given) before left after)

  -- The sink failed in it: a front of that was written.
  abbrev pub IsBroken : Option (List ℕ) → SinkView → SinkView → Command → Type 0
  IsBroken read before after (C.Run kind flags) = IfSome read
      (λ text. IsScriptAnd (reading (grammar_of kind) text)
      (λ s. OverErased
      (λ given left. FrontFrom chip (machines_of kind) (format_by flags.old) (script_of s) (Reports flags.hex) (ReportsFront flags.hex) (chip given) before left after)))
  IsBroken read before after C.Audit = IfSome read (λ text. AuditedFront text before after)
  IsBroken read before after (C.Generate count start) =
      OverErased (λ given left. RanFrom chip node_kind (format_by false) (script_of (generated count start)) SummarizesFront (chip given) before left after)

  -- There was no memory for it: nothing was written, or the report of the first lives of a script. Of a script that is generated nothing was written;
  -- which of its lives were run isn't told, unless the sink changed in what its view doesn't show: then its first lives were, or all.
  abbrev pub IsShort : {K : Type 0} → (K → SinkView) → Option (List ℕ) → K → K → Command → Type 0
  IsShort view read before after (C.Run kind flags) = (after ≡ before)
      ⊎ IfSome read
      (λ text. IsScriptAnd (reading (grammar_of kind) text)
      (λ s. FromErased
      (λ given left. FirstFrom chip (machines_of kind) (format_by flags.old) (script_of s) (Reports flags.hex) (chip given) (view before) left (view after))))
  IsShort view read before after C.Audit = after ≡ before
  IsShort view read before after (C.Generate count start) = (view after ≡ view before)
      × ((after ≡ before)
      ⊎ FromErased
      (λ given left. FirstOrAllFrom chip node_kind (format_by false) (script_of (generated count start)) Unwritten (chip given) (view before) left (view after)))
