-- What a script has a node do, as a run has it: the plan of each life, and what the node is provisioned with.
use Rattle.std.specs.Prelude.{ℕ, List, map, All}
use Rattle.life_laws.specs.Plan.{HasOneArm, IsStep}
use Rattle.life_laws.specs.declared.plan.LifePlan.{LifePlan}
use Rattle.node_store.specs.Provisioning.{provisioning}
use Rattle.node_store.specs.declared.provision.Provision.{Provision}
use Rattle.run_definitions.specs.Order.{Step, arm, phase}
use Rattle.run_definitions.specs.RunOf as Run
use Rattle.script_definitions.specs.Phases as Said
use Rattle.script_definitions.specs.declared.line.ScriptLine.{ScriptLine}
use Rattle.script_definitions.specs.declared.script.ProvisionLine.{ProvisionLine}
use Rattle.script_definitions.specs.declared.script.Script.{Script}

abbrev pub step_of : Said.PlanStep → Step
step_of (Said.arms line) = arm line.calls line.mask
step_of (Said.does events) = phase events

-- the plan of the lines of one life
abbrev pub plan_of_lines : List ScriptLine → List Step
plan_of_lines lines = map step_of (Said.steps_of lines)

-- what `provision` says
abbrev pub provision_of : ProvisionLine → Provision
provision_of line = record {
  unicast = line.unicast;
  elements = line.elements;
  iv = line.iv;
  flags = line.flags;
  net_index = line.net_index;
  net_key = line.net_key;
  dev_key = line.dev_key;
}

abbrev pub script_of : Script → Run.Script
script_of s = record { node = provisioning (provision_of s.provision); lives = map plan_of_lines s.lives }

-- A plan for a node with so many elements: at most one order to tear a call, and events that the node may have.
pub record IsPlanFor (elements : ℕ) (plan : LifePlan) : Type 0 where
  pub arm : HasOneArm plan.steps.items
  pub steps : All (IsStep plan.bearers elements) plan.steps.items
