-- Where each status of a run comes.
use Rattle.std.specs.Prelude.{◌≡◌, ◌⊎◌, ℕ, ◌+◌, ◌<◌, ◌≤◌, nat_lt, Bool, true, false, IsTrue, List, length, Option, Some, None, ⊤}
use Rattle.flash_model.specs.Chip.{Chip, Remembers, count_of}
use Rattle.script_definitions.specs.Reading.{Reading, reading}
use Rattle.script_definitions.specs.Reading.Reading.{Fails, IsScript}
use Rattle.script_definitions.specs.declared.kind.Grammar.{Grammar}
use Rattle.script_definitions.specs.declared.script.Script.{Script}
use Rattle.slot_journal.specs.Format.{IsErased, IsFirstWritten}
use Rattle.command_words.specs.declared.commands.Command.{Command}
use Rattle.command_words.specs.declared.commands.Command.TheVariants as C
use Rattle.command_words.specs.declared.commands.NodeKind.{NodeKind}
use Rattle.run_steps.specs.declared.reading.ReadStop.{ReadStop}
use Rattle.run_steps.specs.declared.reading.ReadStop.TheVariants as R
use Rattle.run_steps.specs.declared.status.Status.{Status}
use Rattle.run_steps.specs.declared.status.Status.TheVariants as S

-- a text is a script, and this holds of it
abbrev pub IsScriptAnd : Reading → (Script → Type 0) → Type 0
IsScriptAnd (IsScript s) P = P s
IsScriptAnd (Fails line rule) P = ⊥

-- this holds of a text that is a script
abbrev pub IfScript : Reading → (Script → Type 0) → Type 0
IfScript (IsScript s) P = P s
IfScript (Fails line rule) P = ⊤

-- the statuses before the flash is touched
abbrev pub IsBeforeFlash : Status → Type 0
IsBeforeFlash S.Usage = ⊤
IsBeforeFlash S.ReadFault = ⊤
IsBeforeFlash S.TooLong = ⊤
IsBeforeFlash (S.Script line rule) = ⊤
IsBeforeFlash (S.Report line) = ⊤
IsBeforeFlash _ = ⊥

-- the statuses before the first life
abbrev pub IsBeforeLives : Status → Type 0
IsBeforeLives S.Done = ⊥
IsBeforeLives S.WriteFault = ⊥
IsBeforeLives S.Memory = ⊥
IsBeforeLives _ = ⊤

-- how a run ends whose lives were run and are summed up
abbrev pub IsSumEnd : Status → Type 0
IsSumEnd S.Done = ⊤
IsSumEnd S.WriteFault = ⊤
IsSumEnd S.Memory = ⊤
IsSumEnd _ = ⊥

-- how a run ends whose source wasn't read to its end
abbrev pub read_end : ReadStop → Status
read_end R.Fault = S.ReadFault
read_end R.TooLong = S.TooLong
read_end R.Memory = S.Memory

-- a script is to be run, and this holds of the kind of node
abbrev pub IsRunAnd : Option Command → (NodeKind → Type 0) → Type 0
IsRunAnd (Some (C.Run kind flags)) P = P kind
IsRunAnd _ P = ⊥

-- a script is to be generated
abbrev pub IsGenerate : Option Command → Type 0
IsGenerate (Some (C.Generate count start)) = ⊤
IsGenerate _ = ⊥

-- the statuses of a run whose source may have more
abbrev pub IsReadingStop : Status → Type 0
IsReadingStop S.Usage = ⊤
IsReadingStop S.ReadFault = ⊤
IsReadingStop S.TooLong = ⊤
IsReadingStop S.Memory = ⊤
IsReadingStop _ = ⊥

-- the statuses of a run that came to its flash, but for want of memory
abbrev pub IsFromFlash : Status → Type 0
IsFromFlash S.FlashFault = ⊤
IsFromFlash (S.NotErased at) = ⊤
IsFromFlash S.WriteFault = ⊤
IsFromFlash S.Done = ⊤
IsFromFlash _ = ⊥

-- how a run of a text ends that reads so
abbrev pub IsDueBy : Reading → Status → Type 0
IsDueBy (IsScript s) status = IsFromFlash status
IsDueBy (Fails line rule) status = status ≡ S.Script line rule

-- how a run ends whose text is too long or not
abbrev pub IsDueIf : Bool → Grammar → List ℕ → Status → Type 0
IsDueIf true grammar text status = status ≡ S.TooLong
IsDueIf false grammar text status = IsDueBy (reading grammar text) status

-- How a run of this text ends, as one of this grammar, where the source doesn't fail and there is memory: each cause in its order.
abbrev pub IsDue : Grammar → List ℕ → Status → Type 0
IsDue grammar text status =
    (status ≡ S.ReadFault) ⊎ (status ≡ S.Memory) ⊎ IsDueIf (nat_lt 4194304 (length text)) grammar text status

-- every image of the flash is erased
abbrev pub IsErasedFlash : Chip → Type 0
IsErasedFlash chip = (c : List ℕ) → chip.images c → IsErased c

-- the image of the flash that its power cycle left was erased
abbrev pub WasErased : Chip → Type 0
WasErased chip = (c : List ℕ) × chip.images c × IsErased c

-- What its power cycle left is what is read and the only image, and this is the first octet that isn't ff. The flash didn't fail since then, and
-- was given no order to tear a call, and no program or erase call was begun.
pub record IsWrittenAt (at : ℕ) (old new : Chip) : Type 0 where
  pub was : old.images new.now
  pub first : IsFirstWritten new.now at
  pub setting : new.setting
      ≡ record { faults = old.faults; arm = None; saved = new.now; moment = new.setting.moment; called = 0; programmed = 0; cycles = old.setting.cycles + 1 }
  pub no_fault : new.faults ≡ old.faults
  pub calls : count_of new ≡ record { calls = 0; erases = 0; octets = 0 }
  pub stays : (image : List ℕ) → new.images image → image ≡ new.now

-- The flash failed in the first power cycle since then.
abbrev pub FailedFirst : Chip → Chip → Type 0
FailedFirst old new = (new.setting.cycles ≡ old.setting.cycles + 1) × (old.faults < new.faults)

-- what a run leaves of the flash, whatever becomes of its content
pub record IsSameFlash (old new : Chip) : Type 0 where
  pub honest : IsTrue new.honest
  pub steady : new.steady ≡ old.steady
  pub later : old.faults ≤ new.faults
  pub past : Remembers old new
