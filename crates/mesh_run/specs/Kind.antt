-- A kind of machine, by what is told of the lives that it leads.
use Rattle.std.specs.Prelude.{◌↔◌, ℕ, List}
use Rattle.command_words.specs.declared.commands.NodeKind.{NodeKind}
use Rattle.command_words.specs.declared.commands.NodeKind.TheVariants as N
use Rattle.event_definitions.specs.Role.{Role, node_role}
use Rattle.flash_model.specs.Chip.{Chip}
use Rattle.low_power_machine.specs.Machine as LowPower
use Rattle.low_power_role.specs.Role.{low_power_role}
use Rattle.machine_contract.specs.Opening.{FlashFound}
use Rattle.machine_contract.specs.View.{MachineView}
use Rattle.mesh_machine.specs.Machine.{Stands, shown}
use Rattle.node_layers.specs.NodeLayers.{node_layers}
use Rattle.node_store.specs.Tie.{IsNode}
use Rattle.record_types.specs.declared.records.StoreRecord.{StoreRecord}
use Rattle.run_safety.specs.SafeRole.{IsSafeRole}
use Rattle.script_definitions.specs.declared.kind.Grammar.{Grammar}
use Rattle.script_definitions.specs.declared.kind.Grammar.TheVariants as G
use Rattle.mesh_run.specs.declared.machine.ScriptMachine.{ScriptMachine}

-- What contracts see of a machine, and what ties it to its flash, as its life found it and as it is, and to the records that its life opened
-- over; what kind of node it is; and what each image of its flash is to be.
pub record MachineKind : Type 1 where
  pub machine : Type 0
  pub view : machine → MachineView
  pub stands : FlashFound → Chip → List StoreRecord → machine → Type 0
  pub role : Role
  pub image : List ℕ → Type 0

abbrev pub kind_of : {M : Type 0} → (M → MachineView) → (FlashFound → Chip → List StoreRecord → M → Type 0)
    → Role → (List ℕ → Type 0) → MachineKind
kind_of {M} view stands role image =
    record { machine = M; view = view; stands = stands; role = role; image = image }

-- Its runs are safe, and it opens over the flash of each node.
pub record IsSafeKind (kind : MachineKind) : Type 0 where
  pub safe : IsSafeRole kind.role
  pub image : (content : List ℕ) → kind.image content ↔ IsNode content

-- a node with all its layers
abbrev pub node_kind : MachineKind
node_kind =
    kind_of (λ (m : ScriptMachine). shown m.machine) (λ first chip over (m : ScriptMachine). Stands first chip over m.machine)
    (node_role node_layers) IsNode

-- a Low Power node
abbrev pub low_power_kind : MachineKind
low_power_kind = kind_of LowPower.shown LowPower.Stands low_power_role IsNode

-- what runs the script of each kind of node, and the grammar of that script
abbrev pub machines_of : NodeKind → MachineKind
machines_of N.Node = node_kind
machines_of N.LowPower = low_power_kind

abbrev pub grammar_of : NodeKind → Grammar
grammar_of N.Node = G.Node
grammar_of N.LowPower = G.LowPower
