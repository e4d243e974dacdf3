-- The machine of a script may go to another thread.
use denote.Param.Send.{IsSend}
use denote.Param.SendFields.{declared_send}
use Rattle.mesh_machine.proofs.Crossing.{machine_send}
use Rattle.mesh_run.specs.contracts.machine.ScriptMachine as ScriptMachine

pub script_machine_send : IsSend ScriptMachine.the_row
script_machine_send = declared_send ScriptMachine.the_type (machine_send, tt)
