-- What holds of a machine, its flash and the records that its life opened over, between two calls.
use Rattle.std.specs.Prelude.{◌≡◌, ℕ, false, All, List}
use Rattle.event_definitions.specs.History.{Past, Told}
use Rattle.event_definitions.specs.Role.{node_role}
use Rattle.event_plans.specs.Memory.{IsFitFor, NodeTablesView}
use Rattle.event_plans.specs.Plans.{IsStanding}
use Rattle.flash_model.specs.Chip.{Chip}
use Rattle.machine_contract.specs.Opening.{FlashFound}
use Rattle.machine_contract.specs.declared.answers.Hand.{Hand}
use Rattle.machine_standing.specs.Ties.{IsOverBy, IsReadyBy, StandsBy, entered_by, opened_by, refilled_by, stopped_by}
use Rattle.machine_ties.specs.Views.{NodeMachine}
use Rattle.mesh_types.specs.declared.history.Entry.{Entry}
use Rattle.node_layers.specs.NodeLayers.{node_layers}
use Rattle.record_types.specs.declared.records.StoreRecord.{StoreRecord}
use Rattle.seq_reserve.specs.declared.reserve.Reserve.{Reserve}
use Rattle.store_definitions.specs.Ranges.{IsInRange}

-- What stands before the next event of a machine that isn't closed: the store's value says the records, whose node can
-- be run, and what it keeps in memory is that of the entries. The records before each entry were in range, too.
pub record IsBefore (past : Past) (m : NodeMachine) : Type 0 where
  pub standing : IsStanding past m.reserve.store.persist m.tables
  pub told : All (λ (t : Told). All IsInRange t.records) past.told

-- The store takes records, its mark is the keeper's, the keys are those that it says, the models are within its bounds,
-- and the elements are those that it says.
abbrev pub IsReady : NodeMachine → Type 0
IsReady m = IsReadyBy IsBefore IsFitFor m

-- the invariant of a machine
abbrev pub IsSound : NodeMachine → Type 0
IsSound m = m.closed ≡ false → IsReady m

-- Of a machine that isn't closed the flash is that of its store, which has the records that the entries and refills so far left.
abbrev pub IsOver : Chip → Past → NodeMachine → Type 0
IsOver chip past m = IsOverBy IsBefore chip past m

-- A machine stands over a flash and the records that its life opened over.
abbrev pub Stands : FlashFound → Chip → List StoreRecord → NodeMachine → Type 0
Stands first chip over m = StandsBy (node_role node_layers) IsBefore first chip over m

-- The machine after an event: with this entry, and no refill behind it.
abbrev pub entered : NodeMachine → Reserve → NodeTablesView → Entry → NodeMachine
entered m reserve tables entry = entered_by m reserve tables entry

-- the machine that a call closed, with this in hand
abbrev pub stopped : NodeMachine → Reserve → NodeTablesView → Hand → NodeMachine
stopped m reserve tables hand = stopped_by m reserve tables hand

-- the machine after a refill
abbrev pub refilled : NodeMachine → Reserve → NodeMachine
refilled m reserve = refilled_by m reserve

-- the machine at the beginning of a life
abbrev pub opened : Reserve → NodeTablesView → ℕ → NodeMachine
opened reserve tables elements = opened_by reserve tables elements
