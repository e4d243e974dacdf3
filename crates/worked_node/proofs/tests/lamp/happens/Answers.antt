use Rattle.mesh_machine.specs.contracts.machine.MeshMachine as MeshMachine
use denote.Param.Send.{IsSend, sendable}
use Rattle.mesh_machine.proofs.Crossing.{machine_send}
use Rattle.worked_node.proofs.tests.lamp.happens.Goals as goal

pub line-requires-send-M : goal.line-requires-send-M
line-requires-send-M c κs = let sent : IsSend MeshMachine.the_row = machine_send in search sendable
