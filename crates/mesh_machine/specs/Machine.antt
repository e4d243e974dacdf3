-- The machine of a node: what it shows, and how it stands over its flash and over the records that its life opened over.
use Rattle.std.specs.Prelude.{ℕ, List}
use Rattle.flash_model.specs.Chip.{Chip}
use Rattle.machine_contract.specs.Opening.{FlashFound}
use Rattle.machine_contract.specs.View.{MachineView}
use Rattle.machine_ties.specs.Ties as ties
use Rattle.machine_ties.specs.Views as views
use Rattle.mesh_machine.specs.declared.machine.MeshMachine.{MeshMachine}
use Rattle.node_records.specs.declared.persist.Persist.{Persist}
use Rattle.record_types.specs.declared.records.StoreRecord.{StoreRecord}

-- The counts of early reading are in nothing that it shows.
abbrev pub shown : MeshMachine → MachineView
shown m = views.shown m.state.value

abbrev pub Stands : FlashFound → Chip → List StoreRecord → MeshMachine → Type 0
Stands first chip over m = ties.Stands first chip over m.state.value

-- of each advance of its keeper the word that it found in the counter, and the one that it moved the counter to
abbrev pub advances_of : MeshMachine → List (ℕ × ℕ)
advances_of m = m.state.value.reserve.keeper.advances

-- what is stored
abbrev pub persist_of : MeshMachine → Persist
persist_of m = m.state.value.reserve.store.persist
