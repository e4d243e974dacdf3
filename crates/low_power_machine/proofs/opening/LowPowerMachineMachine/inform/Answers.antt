use Rattle.std.proofs.Common.{◌∙◌, ap}
use Rattle.std.specs.Box.{with_value}
use Rattle.low_power_machine.specs.Views.{LowPowerNode}
use Rattle.low_power_machine.proofs.opening.LowPowerMachineMachine.inform.Goals as goal

pub returns-clause-same : goal.returns-clause-same
returns-clause-same c =
    ap (λ (m : LowPowerNode). record c.args.self.now { state = with_value c.args.self.now.state m }) (c.inform.ensures.same ∙ c.deref_mut.ensures.value)
