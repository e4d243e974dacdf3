use Rattle.mesh_machine.specs.contracts.machine.MeshMachine as MeshMachine
use denote.Param.Send.{IsSend, sendable}
use Rattle.mesh_machine.proofs.Crossing.{machine_send}
use Rattle.node_handle.proofs.handing.hand_end.Goals as goal

pub is_usable-requires-send-M : goal.is_usable-requires-send-M
is_usable-requires-send-M c κs = let sent : IsSend MeshMachine.the_row = machine_send in search sendable

pub has_left-requires-send-M : goal.has_left-requires-send-M
has_left-requires-send-M c κs = let sent : IsSend MeshMachine.the_row = machine_send in search sendable
