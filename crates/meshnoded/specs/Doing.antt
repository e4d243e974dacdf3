-- What the program did of what it was asked for, over its files and streams.
use Rattle.std.specs.Prelude.{◌≡◌, ◌⊎◌, ◌||◌, ⊤, Bool, true, false, List, ℕ, Option, Some, None, IsSomeAnd}
use Rattle.daemon_words.specs.Commands.{command_of, word_at}
use Rattle.daemon_words.specs.declared.commands.Command.{Command}
use Rattle.daemon_words.specs.declared.commands.Command.TheVariants as C
use Rattle.daemon_words.specs.declared.texts.TheConstants.{HELP, VERSION}
use Rattle.flash_model.specs.Chip.{Chip}
use Rattle.live_node.specs.Lived.{StreamsAt}
use Rattle.node_file.specs.declared.faults.MakeFault.{MakeFault}
use Rattle.node_file.specs.declared.faults.OpenFault.{OpenFault}
use Rattle.node_store.specs.declared.provision.Provision.{Provision}
use Rattle.report_writer.specs.Handing.{HandedFront, IsHanded}
use Rattle.report_writer.specs.Writing.{SinkView}
use Rattle.meshnoded.specs.Answering.{IsMade, IsOpened, IsTold, IsUntold}
use Rattle.meshnoded.specs.Failing.{open_failure}
use Rattle.meshnoded.specs.Reading.{IsUnmade}
use Rattle.meshnoded.specs.Running.{HasRun, IsNotRun}
use Rattle.meshnoded.specs.Streams.{SourceAt, StreamsBack, back_by, back_of, back_with}
use Rattle.meshnoded.specs.declared.failure.Failure.{Failure}
use Rattle.meshnoded.specs.declared.failure.Failure.TheVariants as F

-- there is no clock, no thread that reads, or no memory for them
abbrev pub IsClockless : Failure → Type 0
IsClockless (F.Clock error) = ⊤
IsClockless F.Memory = ⊤
IsClockless _ = ⊥

-- A node was to be run over streams. Where it is asked for a clock, a thread reads the source, and what that thread gives is told to no clause;
-- the node reads what the thread hands on, so the faults of its source are those that it met there.
pub record RanOver (Ran : Bool → StreamsAt → StreamsAt → Type 0) (clocked clock : Bool) (old : StreamsAt) (back : StreamsBack) : Type 0 where
  pub from : StreamsAt
  pub to : StreamsAt
  pub source : clock ≡ false → from ≡ old
  pub before : from.told ≡ old.told
  pub before_faults : from.sink_faults ≡ old.sink_faults
  pub after : back ≡ back_by clock to
  pub ran : Ran (clock || clocked) from to

module _ {N : Type 0} (chip : N → Chip) (opens : List ℕ → Chip → Type 0) (makes : List ℕ → Provision → Type 0) (clocked : Bool) (old : StreamsAt)
    (back : StreamsBack) (before after : SinkView) where
  -- A command was done, of a file. Only a node that is run tells of wrong lines.
  abbrev pub IsDone : Command → List ℕ → Type 0
  IsDone (C.Init numbers) file =
      (source : SourceAt) × (back ≡ back_with (Some source) old) × IsMade (makes file) numbers old.left source.left × (after ≡ before)
  IsDone (C.Run ways) file =
      RanOver (λ timed from to. HasRun chip (opens file) ways.hex ways.bearers timed from to before after) clocked ways.clock old back
  IsDone C.Show file = IsTold chip (opens file) (λ text. IsHanded text before after) × (back ≡ back_of old)
  IsDone C.Check file = IsOpened chip (opens file) × (back ≡ back_of old) × (after ≡ before)
  IsDone C.Help file = IsHanded HELP.now before after × (back ≡ back_of old)
  IsDone C.Version file = IsHanded VERSION.now before after × (back ≡ back_of old)

  -- what words ask for was done: the command that they are, of the file that they name
  abbrev pub IsDoneBy : List (List ℕ) → Type 0
  IsDoneBy words = IsSomeAnd (command_of words) (λ command. IsDone command (word_at words 1))

module _ {N : Type 0} (chip : N → Chip) (opens : List ℕ → Chip → Type 0) (refuses : List ℕ → OpenFault → Type 0)
    (unmakes : List ℕ → Provision → MakeFault → Type 0) (clocked : Bool) (old : StreamsAt) (back : StreamsBack) (before after : SinkView) where
  -- nothing was read or told
  abbrev pub IsSilent : Type 0
  IsSilent = (back ≡ back_of old) × (after ≡ before)

  -- A command wasn't done, and this is why; and what was told all the same.
  abbrev pub IsFailed : Command → List ℕ → Failure → Type 0
  IsFailed (C.Init numbers) file failure =
      (source : SourceAt) × (back ≡ back_with (Some source) old) × (after ≡ before)
      × IsUnmade (unmakes file) numbers old.left old.source_faults source.left source.faults failure
  IsFailed (C.Run ways) file failure =
      ((ways.clock ≡ true) × IsClockless failure × (back ≡ back_with None old) × (after ≡ before))
      ⊎ RanOver (λ timed from to. IsNotRun chip (opens file) ways.hex ways.bearers timed from to before after (refuses file) failure) clocked ways.clock old back
  IsFailed C.Show file failure = IsUntold chip (opens file) (refuses file) before after failure × (back ≡ back_of old)
  IsFailed C.Check file failure = (fault : OpenFault) × (failure ≡ open_failure fault) × refuses file fault × IsSilent
  IsFailed C.Help file failure = (failure ≡ F.Write) × HandedFront HELP.now before after × (back ≡ back_of old)
  IsFailed C.Version file failure = (failure ≡ F.Write) × HandedFront VERSION.now before after × (back ≡ back_of old)

  -- words that are a command weren't done, or they are none
  abbrev pub IsRefused : Option Command → List ℕ → Failure → Type 0
  IsRefused None file failure = (failure ≡ F.Usage) × IsSilent
  IsRefused (Some command) file failure = IsFailed command file failure

  -- what words ask for wasn't done: for want of memory to read them, or so
  abbrev pub IsFailedBy : List (List ℕ) → Failure → Type 0
  IsFailedBy words failure = ((failure ≡ F.Memory) × IsSilent) ⊎ IsRefused (command_of words) (word_at words 1) failure
