use Rattle.std.proofs.Common.{◌∙◌, ap}
use Rattle.std.specs.Box.{with_value}
use Rattle.machine_ties.specs.Views.{NodeMachine}
use Rattle.mesh_machine.proofs.opening.MeshMachineMachine.inform.Goals as goal

pub returns-clause-same : goal.returns-clause-same
returns-clause-same c =
    ap (λ (m : NodeMachine). record c.args.self.now { state = with_value c.args.self.now.state m }) (c.inform.ensures.same ∙ c.deref_mut.ensures.value)
