-- The machine of a Low Power node: what it shows, and how it stands over its flash and over the records that its life opened over.
use Rattle.std.specs.Prelude.{ℕ, List}
use Rattle.flash_model.specs.Chip.{Chip}
use Rattle.low_power_machine.specs.Views as views
use Rattle.low_power_machine.specs.declared.machine.LowPowerMachine.{LowPowerMachine}
use Rattle.machine_contract.specs.Opening.{FlashFound}
use Rattle.machine_contract.specs.View.{MachineView}
use Rattle.record_types.specs.declared.records.StoreRecord.{StoreRecord}

abbrev pub shown : LowPowerMachine → MachineView
shown m = views.shown m.state.value

-- of each advance of its keeper the word that it found in the counter, and the one that it moved the counter to
abbrev pub advances_of : LowPowerMachine → List (ℕ × ℕ)
advances_of m = m.state.value.reserve.keeper.advances

abbrev pub Stands : FlashFound → Chip → List StoreRecord → LowPowerMachine → Type 0
Stands first chip over m = views.Stands first chip over m.state.value
