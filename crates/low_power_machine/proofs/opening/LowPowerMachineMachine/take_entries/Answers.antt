use Rattle.std.proofs.Common.{subst, sym}
use Rattle.low_power_machine.specs.Views.{LowPowerNode, Stands}
use Rattle.low_power_machine.proofs.opening.LowPowerMachineMachine.take_entries.Goals as goal

pub returns-clause-kept : goal.returns-clause-kept
returns-clause-kept g c first f over s =
    c.take.ensures.kept first f over (subst (λ (m : LowPowerNode). Stands first (g.F.Flash.chip f) over m) (sym c.deref_mut.ensures.value) s)
