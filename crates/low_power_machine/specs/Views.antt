-- The machine of a Low Power node as its own clauses see it, and what holds of it between two calls.
use Rattle.std.specs.Prelude.{◌≡◌, false, List}
use Rattle.event_definitions.specs.History.{Past}
use Rattle.flash_model.specs.Chip.{Chip}
use Rattle.low_power_machine.specs.Memory.{IsFitFor}
use Rattle.low_power_machine.specs.declared.memory.Memory.{Memory}
use Rattle.low_power_role.specs.Role.{low_power_role}
use Rattle.low_power_role.specs.State.{state_of}
use Rattle.machine_contract.specs.Opening.{FlashFound}
use Rattle.machine_contract.specs.View.{MachineView}
use Rattle.machine_standing.specs.Ties.{IsNodeStore, IsReadyBy, StandsBy}
use Rattle.machine_standing.specs.Views.{LifeMachine, shown_of}
use Rattle.record_types.specs.declared.records.StoreRecord.{StoreRecord}

abbrev pub LowPowerNode : Type 0
LowPowerNode = LifeMachine Memory

abbrev pub shown : LowPowerNode → MachineView
shown m = shown_of m

-- What stands before the next event of a machine that isn't closed: the store's value says the records, whose node can be run, and what it
-- knows of its friend is the state after the entries.
pub record IsBefore (past : Past) (m : LowPowerNode) : Type 0 where
  pub node : IsNodeStore past.records m.reserve.store.persist
  pub state : m.tables.lpn ≡ state_of past

-- the invariant of a machine
abbrev pub IsSound : LowPowerNode → Type 0
IsSound m = m.closed ≡ false → IsReadyBy IsBefore IsFitFor m

-- A machine stands over a flash and the records that its life opened over.
abbrev pub Stands : FlashFound → Chip → List StoreRecord → LowPowerNode → Type 0
Stands first chip over m = StandsBy low_power_role IsBefore first chip over m
