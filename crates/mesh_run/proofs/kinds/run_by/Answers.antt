use Rattle.low_power_machine.specs.contracts.machine.LowPowerMachine as LowPowerMachine
use Rattle.mesh_run.specs.contracts.machine.ScriptMachine as ScriptMachine
use denote.Param.Send.{IsSend, sendable}
use Rattle.low_power_machine.proofs.Crossing.{machine_send}
use Rattle.mesh_run.proofs.Crossing.{script_machine_send}
use Rattle.mesh_run.proofs.kinds.run_by.Goals as goal

pub returns-in-Node-clause-report : goal.returns-in-Node-clause-report
returns-in-Node-clause-report g c = rw c.in-Node.is c.run_text.ensures.report

pub returns-in-LowPower-clause-report : goal.returns-in-LowPower-clause-report
returns-in-LowPower-clause-report g c = rw c.in-LowPower.is c.run_text-in-LowPower.ensures.report

pub run_text-requires-send-M : goal.run_text-requires-send-M
run_text-requires-send-M g c κs = let sent : IsSend ScriptMachine.the_row = script_machine_send in search sendable

pub run_text-requires-in-LowPower-send-M : goal.run_text-requires-in-LowPower-send-M
run_text-requires-in-LowPower-send-M g c κs = let sent : IsSend LowPowerMachine.the_row = machine_send in search sendable
