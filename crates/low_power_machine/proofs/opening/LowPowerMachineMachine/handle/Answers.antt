use Rattle.std.proofs.Common.{subst, sym}
use Rattle.low_power_machine.specs.Views.{LowPowerNode, Stands}
use Rattle.low_power_machine.proofs.opening.LowPowerMachineMachine.handle.Goals as goal

pub returns-clause-kept : goal.returns-clause-kept
returns-clause-kept g c first over s =
    c.handle_event.ensures.kept first over (subst (λ (m : LowPowerNode). Stands first (g.F.Flash.chip c.args.flash.now) over m) (sym c.deref_mut.ensures.value) s)
