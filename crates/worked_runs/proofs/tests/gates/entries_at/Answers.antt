use Rattle.std.proofs.Common.{ℕ, ◌≤◌, arith, subst, sym}
use Rattle.std.specs.Prelude.{All}
use Rattle.life_laws.specs.Plan.{IsStep}
use Rattle.store_definitions.specs.Config.{config_of}
use Rattle.mesh_machine.specs.contracts.machine.MeshMachine as MeshMachine
use denote.Param.Send.{IsSend, sendable}
use Rattle.mesh_machine.proofs.Crossing.{machine_send}
use Rattle.worked_runs.proofs.tests.gates.entries_at.Goals as goal

-- two bearers, and events that any node may have
pub life-requires-clause-plan : goal.life-requires-clause-plan
life-requires-clause-plan g c κs within = record {
  few = subst (λ (b : ℕ). b ≤ 8) (sym c.in-Ok.ensures.bearers) (omega arith);
  arm = c.in-Ok.ensures.arm;
  steps = λ image records is read.
      subst (λ (b : ℕ). All (IsStep b (config_of records).elements) c.in-Ok.plan.steps.items) (sym c.in-Ok.ensures.bearers) (c.in-Ok.ensures.steps (config_of records).elements);
}

pub life-requires-send-M : goal.life-requires-send-M
life-requires-send-M g c κs within = let sent : IsSend MeshMachine.the_row = machine_send in search sendable
