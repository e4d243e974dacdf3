-- A life between a flash and the flash.
use Rattle.std.specs.Prelude.{◌≡◌, ℕ, ◌+◌, ◌^◌, ◌<◌, ◌≤◌, ◌≢◌, length, true, false, IsTrue, List, Option, None, IfSome}
use Rattle.flash_model.specs.Arming.{IsTornLast, IsWithin}
use Rattle.flash_model.specs.Chip.{CallCount, Chip, Remembers, count_of}
use Rattle.machine_contract.specs.Moved.{HasMoved}
use Rattle.machine_contract.specs.Opening.{EachRecovered, FlashFound, IsNodeFlash}
use Rattle.machine_contract.specs.Standing.{IsLifeSoFar}
use Rattle.mesh_types.specs.declared.history.Sent.{Sent}
use Rattle.mesh_types.specs.declared.report.End.{End}
use Rattle.mesh_types.specs.declared.report.End.TheVariants as F
use Rattle.mesh_types.specs.declared.report.Opened.TheVariants as W
use Rattle.report_definitions.specs.Record.{Life, list_at}
use Rattle.record_types.specs.declared.records.StoreRecord.{StoreRecord}
use Rattle.event_definitions.specs.Role.{Role}
use Rattle.run_definitions.specs.Order.{Step, is_cut, phases_of}
use Rattle.run_definitions.specs.RunOf.{LifeOf, is_on}
use Rattle.slot_definitions.specs.Slots.{HasFormat}
use Rattle.store_definitions.specs.Config.{config_of}
use Rattle.store_definitions.specs.Recovered.{IsRecovered}
use Rattle.store_definitions.specs.Wear.{COMPACTION_OCTETS, MOUNT_READS}
use Rattle.std.specs.Prelude.{All, Some}
use Rattle.life_laws.specs.declared.plan.LifeLog.{LifeLog}
use Rattle.life_laws.specs.declared.plan.LifePlan.{LifePlan}
use Rattle.machine_contract.specs.View.{MachineView}
use Rattle.mesh_node.specs.Drawn.{TellsDrawn, opened_at}
use Rattle.mesh_node.specs.Given.{IsTold, WasFirst, WasGiven}
use Rattle.life_laws.specs.Hands.{HoldsNext}
use Rattle.life_laws.specs.Pairs.{IsFromMove, IsUntilMove}
use Rattle.life_laws.specs.Plan.{HasOneArm, IsStep, life_of}
use Rattle.mesh_node.specs.Steps.{IsGiven, IsOfPlan}
use Rattle.mesh_node.specs.Timed.{IsTimed}
use Rattle.node_limits.specs.declared.TheConstants.{BANK_SECTORS, BEARERS, COMPACTION_CALLS}

-- A plan for a node that any image of the flash recovers: at most `BEARERS` bearers, at most one order to tear a call, and events that the node may have.
pub record IsPlanned (chip : Chip) (plan : LifePlan) : Type 0 where
  pub few : plan.bearers ≤ BEARERS
  pub arm : HasOneArm plan.steps.items
  pub steps : EachRecovered chip (λ records. All (IsStep plan.bearers (config_of records).elements) plan.steps.items)

abbrev pub cut_calls : End → Option ℕ
cut_calls F.Ended = None
cut_calls (F.Cut calls) = Some calls

-- what a report line has room for: the number of an entry and that of a job, both from 1 on
abbrev pub IsShort : Sent → Type 0
IsShort s = (s.entry + 1 < 2 ^ 32) × (s.job + 1 < 2 ^ 8)

pub record IsPrintable (life : Life) : Type 0 where
  pub entries : length life.entries < 2 ^ 32
  pub bearers : length life.sends ≤ BEARERS
  pub lines : All (All IsShort) life.sends

-- no program or erase call
abbrev pub no_calls : CallCount
no_calls = record { calls = 0; erases = 0; octets = 0 }

-- what a life finds of a flash that has failed so often and reads this, once power was given: no call was begun since
abbrev pub found_at : ℕ → List ℕ → FlashFound
found_at faults image = record { now = image; count = no_calls; reads = 0; faults = faults }

-- The life opened over what one image of the flash recovers. Whatever an image recovers now, it is a life of its plan that leaves this.
pub record Lives {M F : Type 0} (view : M → MachineView) (stands : FlashFound → Chip → List StoreRecord → M → Type 0) (chip : F → Chip)
    (role : Role) (IsNodeImage : List ℕ → Type 0) (plan : List Step) (old : Chip) (log : LifeLog) (new : F) : Type 0 where
  pub over : List StoreRecord
  pub image : List ℕ
  pub is_image : old.images image
  -- the one that was read as power was given
  pub read : (chip new).setting.saved ≡ image
  pub recovered : IsRecovered image over
  -- it is the flash that was given: what a cut might have left of it earlier, it might still have left
  pub past : Remembers old (chip new)
  pub life : EachRecovered (chip new) (λ next. LifeOf role plan over (life_of log) next)
  pub node : IsNodeFlash IsNodeImage (chip new)
  pub printable : IsPrintable (life_of log)
  -- it was cut exactly where the flash failed
  pub later : old.faults ≤ (chip new).faults
  pub cause : is_cut log.end ≡ true → old.faults < (chip new).faults
  pub no_fault : is_cut log.end ≡ false → (chip new).faults ≡ old.faults
  pub steady : (chip new).steady ≡ old.steady
  pub setting : (chip new).setting.faults ≡ old.faults
  -- its power was cycled once, at the beginning
  pub cycles : (chip new).setting.cycles ≡ old.setting.cycles + 1
  pub arm : IsOfPlan plan (chip new).setting.arm
  pub calls : IfSome (cut_calls log.end) (λ calls. calls ≡ (chip new).changes)
  pub drawn : TellsDrawn (life_of log) log.drawn
  -- over a flash that fails by an order alone, one can be cut as it opens only where it migrates format 01
  pub opening : IsTrue old.steady → log.opened ≡ W.CutAtStart → HasFormat 1 image
  -- cut so, it made at most the program and erase calls of that, and none where the format is another
  pub opening_calls : log.opened ≡ W.CutAtStart
      → ((chip new).changes ≤ COMPACTION_CALLS) × ((chip new).erases ≤ BANK_SECTORS) × ((chip new).octets ≤ COMPACTION_OCTETS)
      × (¬ HasFormat 1 image → count_of (chip new) ≡ no_calls)
  -- and where there was a Node Reset it made none, told or not
  pub reset : log.opened ≡ W.WasReset → count_of (chip new) ≡ no_calls
  pub reset_calls : (config_of over).reset ≡ true → log.opened ≡ W.CutAtStart → count_of (chip new) ≡ no_calls
  -- where it wasn't cut, the counter was moved with each record that raised the transmit IV Index, and at no other time
  pub moved : is_cut log.end ≡ false
      → IfSome log.drawn (λ words. HasMoved role over log.history.entries.items log.history.refills words.advances)
  -- over a flash that fails by an order alone, one that the plan has was given, but where there was a Node Reset
  pub armed : IsTrue old.steady → log.opened ≢ W.WasReset → IsGiven plan (chip new).setting.arm
  -- where the life wasn't run, it was given first of all
  pub first : is_on log.opened ≡ false → IfSome (chip new).setting.arm (WasFirst plan)
  -- and carried out: of a life that wasn't cut at most the calls that come before the torn one were begun since
  pub carried : IsTrue old.steady → is_cut log.end ≡ false → IsWithin (chip new).setting.arm 0 (chip new).changes
  -- and of one that was cut the torn call is the last that was begun
  pub torn : IsTrue old.steady → is_cut log.end ≡ true → IsTornLast (chip new).setting.arm (chip new).changes
  -- at most the read calls of a mount were begun in the whole life
  pub reads : (chip new).reads ≤ MOUNT_READS
  -- what is told of the life is all that its machine handled
  pub told : is_on log.opened ≡ true → IsTold view (stands (found_at old.faults image)) chip over (life_of log) new
  -- and an order was given at its place in the plan
  pub given : (on : is_on log.opened ≡ true)
      → IfSome (chip new).setting.arm
      (WasGiven view (stands (found_at old.faults image)) chip over (view (told on).machine) (life_of log).sends plan)
  -- and the flash had at most the program and erase calls that the records cost which were stored or in hand, and a migration
  pub paid : (on : is_on log.opened ≡ true)
      → IsLifeSoFar role IsNodeImage (found_at old.faults image) (chip new) over (view (told on).machine)
  -- no line draws a word, or tells the end of an IV Index, below where the counter had been moved to behind its entry
  pub from : (on : is_on log.opened ≡ true)
      → All (All (IsFromMove (life_of log).entries (view (told on).machine).moves)) (life_of log).sends
  -- nor does one draw a word at or above where it was moved to with a later event from outside of its bearer
  pub until : (on : is_on log.opened ≡ true) → (k : ℕ)
      → All (IsUntilMove k (life_of log).entries (view (told on).machine).moves) (list_at (life_of log).sends k)
  -- and what each line draws lies between where the counter was behind its entry, and behind the entries that come behind it
  pub timed : (on : is_on log.opened ≡ true)
      → IsTimed (is_cut log.end) (phases_of plan) (opened_at log.opened) (life_of log).entries (view (told on).machine).moves
      (life_of log).sends
  -- an event from outside that its machine has in hand comes behind all lines of its bearer's events before
  pub hand : (on : is_on log.opened ≡ true)
      → HoldsNext (phases_of plan) (life_of log).entries (life_of log).sends (view (told on).machine)
  -- a life that wasn't run read nothing
  pub early : is_on log.opened ≡ false → log.early ≡ record { again = 0; before = 0 }
