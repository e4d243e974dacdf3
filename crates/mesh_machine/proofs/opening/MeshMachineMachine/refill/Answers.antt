use Rattle.std.proofs.Common.{subst, sym}
use Rattle.machine_ties.specs.Ties.{Stands}
use Rattle.machine_ties.specs.Views.{NodeMachine}
use Rattle.mesh_machine.proofs.opening.MeshMachineMachine.refill.Goals as goal

pub returns-clause-kept : goal.returns-clause-kept
returns-clause-kept g c first over s =
    c.refill_numbers.ensures.kept first over (subst (λ (m : NodeMachine). Stands first (g.F.Flash.chip c.args.flash.now) over m) (sym c.deref_mut.ensures.value) s)
