use Rattle.event_definitions.specs.Role.{node_role}
use Rattle.machine_standing.proofs.Opened.{stands_same}
use Rattle.machine_ties.specs.Ties.{IsBefore}
use Rattle.node_layers.specs.NodeLayers.{node_layers}
use Rattle.mesh_machine.proofs.opening.MeshMachineMachine.stays.Goals as goal

pub returns : goal.returns
returns g c = record { kept = λ first f h over m same s. stands_same (node_role node_layers) IsBefore first (g.F.Flash.chip f) (g.F.Flash.chip h) over m.state.value same s }
