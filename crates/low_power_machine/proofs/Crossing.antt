-- The machine of a Low Power node may go to another thread.
use denote.Param.Send.{IsSend, sendable, view_send}
use denote.Param.SendFields.{declared_send}
use Rattle.std.proofs.Crossing.{Box-send}
use Rattle.entry_log.proofs.Crossing.{entry_log_send}
use Rattle.low_power_machine.proofs.memory.Memory.TheSendSync as memory
use Rattle.low_power_machine.specs.contracts.machine.LowPowerMachine as LowPowerMachine
use Rattle.low_power_machine.specs.contracts.state.LowPowerState as LowPowerState
use Rattle.machine_contract.specs.contracts.answers.Hand as Hand
use Rattle.seq_reserve.proofs.reserve.Reserve.TheSendSync as reserve

hand_send : IsSend Hand.the_row
hand_send = search sendable depth 30

state_send : IsSend LowPowerState.the_row
state_send =
    view_send LowPowerState.TheInside.the_row _ _ _ _
    (declared_send LowPowerState.TheInside.the_type
    (reserve.the_send, (memory.the_send, (entry_log_send, (search sendable depth 20, (search sendable depth 20, (hand_send, (search sendable depth 20, tt))))))))

pub machine_send : IsSend LowPowerMachine.the_row
machine_send = declared_send LowPowerMachine.the_type (Box-send LowPowerState.the_row state_send, tt)
