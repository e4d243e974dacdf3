-- The machine of a node may go to another thread.
use denote.Param.Send.{IsSend, sendable, view_send}
use denote.Param.SendFields.{declared_send}
use Rattle.std.proofs.Crossing.{Box-send}
use Rattle.entry_log.proofs.Crossing.{entry_log_send}
use Rattle.event_plans.proofs.tables.NodeTables.TheSendSync as tables
use Rattle.machine_contract.proofs.early.EarlyReads.TheSendSync as reads
use Rattle.machine_contract.specs.contracts.answers.Hand as Hand
use Rattle.mesh_machine.specs.contracts.machine.MeshMachine as MeshMachine
use Rattle.mesh_machine.specs.contracts.parts.Parts as Parts
use Rattle.mesh_machine.specs.contracts.state.MeshState as MeshState
use Rattle.seq_reserve.proofs.reserve.Reserve.TheSendSync as reserve

hand_send : IsSend Hand.the_row
hand_send = search sendable depth 30

parts_send : IsSend Parts.the_row
parts_send = declared_send Parts.the_type (reserve.the_send, (tables.the_send, (entry_log_send, tt)))

state_send : IsSend MeshState.the_row
state_send =
    view_send MeshState.TheInside.the_row _ _ _ _
    (declared_send MeshState.TheInside.the_type (parts_send, (search sendable depth 20, (search sendable depth 20, (hand_send, (search sendable depth 20, tt))))))

pub machine_send : IsSend MeshMachine.the_row
machine_send = declared_send MeshMachine.the_type (Box-send MeshState.the_row state_send, (reads.the_send, tt))
