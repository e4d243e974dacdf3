use Rattle.mesh_machine.specs.contracts.machine.MeshMachine as MeshMachine
use denote.Param.Send.{IsSend, sendable}
use Rattle.mesh_machine.proofs.Crossing.{machine_send}
use Rattle.worked_node.proofs.tests.lamp.is_on.Goals as goal

pub report-requires-send-M : goal.report-requires-send-M
report-requires-send-M c κs = let sent : IsSend MeshMachine.the_row = machine_send in search sendable
