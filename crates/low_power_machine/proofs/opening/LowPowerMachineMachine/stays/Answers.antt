use Rattle.low_power_machine.specs.Views.{IsBefore}
use Rattle.low_power_role.specs.Role.{low_power_role}
use Rattle.machine_standing.proofs.Opened.{stands_same}
use Rattle.low_power_machine.proofs.opening.LowPowerMachineMachine.stays.Goals as goal

pub returns : goal.returns
returns g c = record { kept = λ first f h over m same s. stands_same low_power_role IsBefore first (g.F.Flash.chip f) (g.F.Flash.chip h) over m.state.value same s }
