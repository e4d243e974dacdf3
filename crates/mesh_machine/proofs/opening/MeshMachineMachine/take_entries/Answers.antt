use Rattle.std.proofs.Common.{subst, sym}
use Rattle.machine_ties.specs.Ties.{Stands}
use Rattle.machine_ties.specs.Views.{NodeMachine}
use Rattle.mesh_machine.proofs.opening.MeshMachineMachine.take_entries.Goals as goal

pub returns-clause-kept : goal.returns-clause-kept
returns-clause-kept g c first f over s =
    c.take.ensures.kept first f over (subst (λ (m : NodeMachine). Stands first (g.F.Flash.chip f) over m) (sym c.deref_mut.ensures.value) s)
