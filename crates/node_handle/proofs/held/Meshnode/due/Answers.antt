use Rattle.mesh_machine.specs.contracts.machine.MeshMachine as MeshMachine
use denote.Param.Send.{IsSend, sendable}
use Rattle.mesh_machine.proofs.Crossing.{machine_send}
use Rattle.node_handle.proofs.held.Meshnode.due.Goals as goal

pub due-due-requires-send-M : goal.due-due-requires-send-M
due-due-requires-send-M c κs = let sent : IsSend MeshMachine.the_row = machine_send in search sendable
