use Rattle.mesh_machine.specs.contracts.machine.MeshMachine as MeshMachine
use denote.Param.Send.{IsSend, sendable}
use Rattle.mesh_machine.proofs.Crossing.{machine_send}
use Rattle.worked_node.proofs.tests.lamp.lit.Goals as goal

pub pass_report-requires-send-M : goal.pass_report-requires-send-M
pass_report-requires-send-M c κs = let sent : IsSend MeshMachine.the_row = machine_send in search sendable
