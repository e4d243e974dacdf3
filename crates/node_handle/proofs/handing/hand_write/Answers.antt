use Rattle.mesh_machine.specs.contracts.machine.MeshMachine as MeshMachine
use denote.Param.Send.{IsSend, sendable}
use Rattle.mesh_machine.proofs.Crossing.{machine_send}
use Rattle.node_handle.proofs.handing.hand_write.Goals as goal

pub next_write-requires-send-M : goal.next_write-requires-send-M
next_write-requires-send-M c κs = let sent : IsSend MeshMachine.the_row = machine_send in search sendable

pub pass_write-requires-send-M : goal.pass_write-requires-send-M
pass_write-requires-send-M c κs = let sent : IsSend MeshMachine.the_row = machine_send in search sendable
