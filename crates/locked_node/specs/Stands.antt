-- What holds of the value behind the lock whenever the lock is free.
use Rattle.std.specs.Prelude.{◌≡◌, ℕ, ◌<◌, ◌≤◌, ◌^◌, true, false, List, length}
use Rattle.flash_model.specs.Chip.{Chip, Remembers}
use Rattle.machine_contract.specs.Idle.{IsDueIn, IsIdleFor}
use Rattle.machine_contract.specs.Opening.{FlashFound, found_of}
use Rattle.machine_contract.specs.Standing.{IsLifeSoFar}
use Rattle.machine_contract.specs.View.{MachineView}
use Rattle.record_types.specs.declared.records.StoreRecord.{StoreRecord}
use Rattle.event_definitions.specs.History.{Past}
use Rattle.event_definitions.specs.Role.{Role}
use Rattle.seq_word.specs.Seen.{WatcherView}
use Rattle.store_definitions.specs.Config.{config_of}
use Rattle.store_definitions.specs.Recovered.{IsRecovered}
use Rattle.locked_node.specs.Asked.{AreAsked}
use Rattle.locked_node.specs.Counted.{IsCounted}
use Rattle.locked_node.specs.Node.{NodeView}

-- the flash is the one that was found, some calls later
pub record IsLater (start now : Chip) : Type 0 where
  pub faults : start.faults ≤ now.faults
  pub steady : now.steady ≡ start.steady
  pub began : now.setting.faults ≡ start.setting.faults
  -- its power wasn't cycled since
  pub cycles : now.setting.cycles ≡ start.setting.cycles
  pub past : Remembers start now

-- The machine stands over this flash, as the life found it and as it is, and over the records that the life found; and bearers have stopped
-- exactly if it is closed. Else the flash didn't fail since. No refill was stored before there was a job that draws. The seat that watches the
-- counter is at the words that the machine publishes at, and has looked once behind each entry.
pub record Holds {M F : Type 0} (stands : FlashFound → Chip → List StoreRecord → M → Type 0) (view : M → MachineView)
    (chip : F → Chip) (machine : M) (watcher : WatcherView) (start flash : F) (stops : ℕ) : Type 0 where
  pub over : List StoreRecord
  pub read : IsRecovered (chip start).now over
  pub tie : stands (found_of (chip start)) (chip flash) over machine
  pub few : stops < 2 ^ 32
  pub live : (view machine).closed ≡ false → stops ≡ 0
  pub stopped : (view machine).closed ≡ true → 0 < stops
  pub no_fault : (view machine).closed ≡ false → (chip flash).faults ≡ (chip start).faults
  pub later : IsLater (chip start) (chip flash)
  pub asked : AreAsked (view machine).entries (view machine).fills
  pub taken : (view machine).taken ≤ length (view machine).entries
  pub watches : watcher.which ≡ (view machine).which
  pub counted : IsCounted (config_of over).mark (view machine) watcher.counters

-- the same as a caller sees it
pub record IsNode {F : Type 0} (role : Role) (image : List ℕ → Type 0) (chip : F → Chip)
    (n : NodeView F) : Type 0 where
  pub over : List StoreRecord
  pub read : IsRecovered (chip n.start).now over
  pub life : IsLifeSoFar role image (found_of (chip n.start)) (chip n.flash) over n.machine
  pub few : n.stops < 2 ^ 32
  pub live : n.machine.closed ≡ false → n.stops ≡ 0
  pub stopped : n.machine.closed ≡ true → 0 < n.stops
  pub no_fault : n.machine.closed ≡ false → (chip n.flash).faults ≡ (chip n.start).faults
  pub later : IsLater (chip n.start) (chip n.flash)
  -- no refill was stored before there was a job that draws
  pub asked : AreAsked n.machine.entries n.machine.fills
  -- no more entries were taken than there are
  pub taken : n.machine.taken ≤ length n.machine.entries
  -- where the counter was behind each
  pub counted : IsCounted (config_of over).mark n.machine n.counters

-- A machine that shows this stands over the flash, as the life found it and as it is, and over the records that the life found.
pub record HasMachine {M F : Type 0} (stands : FlashFound → Chip → List StoreRecord → M → Type 0) (view : M → MachineView)
    (chip : F → Chip) (n : NodeView F) : Type 0 where
  pub over : List StoreRecord
  pub read : IsRecovered (chip n.start).now over
  pub machine : M
  pub shows : view machine ≡ n.machine
  pub tie : stands (found_of (chip n.start)) (chip n.flash) over machine

-- Over records that the life found, a tick event of fewer than so many is quiet.
pub record IsIdleNode {F : Type 0} (role : Role) (chip : F → Chip) (n : NodeView F) (due : ℕ) : Type 0 where
  pub over : List StoreRecord
  pub read : IsRecovered (chip n.start).now over
  pub idle : IsIdleFor role over n.machine due

-- Over them, this is the least number of ticks of which an event isn't quiet, as the machine says what is, or the most that there is.
pub record IsDueNode {F : Type 0} (role : Role) (Quiet : Past → ℕ → Type 0) (chip : F → Chip) (n : NodeView F) (due : ℕ) : Type 0 where
  pub over : List StoreRecord
  pub read : IsRecovered (chip n.start).now over
  pub least : IsDueIn role Quiet over n.machine due
