use Rattle.mesh_machine.specs.contracts.machine.MeshMachine as MeshMachine
use denote.Param.Send.{IsSend, sendable}
use Rattle.mesh_machine.proofs.Crossing.{machine_send}
use Rattle.worked_node.proofs.tests.lamp.opened.Goals as goal

pub new-requires-send-M : goal.new-requires-send-M
new-requires-send-M c κs = let sent : IsSend MeshMachine.the_row = machine_send in search sendable
