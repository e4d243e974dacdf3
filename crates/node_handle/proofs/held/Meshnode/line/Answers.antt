use Rattle.mesh_machine.specs.contracts.machine.MeshMachine as MeshMachine
use denote.Param.Send.{IsSend, sendable}
use Rattle.mesh_machine.proofs.Crossing.{machine_send}
use Rattle.node_handle.proofs.held.Meshnode.line.Goals as goal

pub line-called-requires-send-M : goal.line-called-requires-send-M
line-called-requires-send-M c κs = let sent : IsSend MeshMachine.the_row = machine_send in search sendable
