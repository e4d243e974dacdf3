-- A plan and a log as definitions of a run have them.
use Rattle.std.specs.Prelude.{◌≡◌, ℕ, List, [], ◌∷◌, map, length, All, ⊤}
use Rattle.report_definitions.specs.Record.{Life}
use Rattle.run_definitions.specs.Order.{Step, arm, phase}
use Rattle.node_bearer.specs.Did.{AreEvents}
use Rattle.life_laws.specs.declared.plan.LifeLog.{LifeLog}
use Rattle.life_laws.specs.declared.plan.PlanStep.{PlanStep}
use Rattle.life_laws.specs.declared.plan.PlanStep.TheVariants as P

abbrev pub step_of : PlanStep → Step
step_of (P.Arm calls mask) = arm calls mask
step_of (P.Phase lists) = phase (map (λ v. v.items) lists.items)

abbrev pub steps_of : List PlanStep → List Step
steps_of steps = map step_of steps

abbrev pub life_of : LifeLog → Life
life_of log =
    record {
      opened = log.opened;
      entries = log.history.entries.items;
      refills = log.history.refills;
      sends = map (λ v. v.items) log.sends.items;
      end = log.end;
    }

-- a step for so many bearers of a node with so many elements
abbrev pub IsStep : ℕ → ℕ → PlanStep → Type 0
IsStep bearers elements (P.Arm calls mask) = ⊤
IsStep bearers elements (P.Phase lists) =
    (length lists.items ≡ bearers) × All (λ v. AreEvents elements v.items) lists.items

-- no order to tear a call; and at most one
abbrev pub AreUnarmed : List PlanStep → Type 0
AreUnarmed [] = ⊤
AreUnarmed (P.Arm calls mask ∷ steps) = ⊥
AreUnarmed (P.Phase lists ∷ steps) = AreUnarmed steps

abbrev pub HasOneArm : List PlanStep → Type 0
HasOneArm [] = ⊤
HasOneArm (P.Arm calls mask ∷ steps) = AreUnarmed steps
HasOneArm (P.Phase lists ∷ steps) = HasOneArm steps

-- An order that stands first is given before the node opens. These are the steps behind it.
abbrev pub behind_arm : List PlanStep → List PlanStep
behind_arm [] = []
behind_arm (P.Arm calls mask ∷ steps) = steps
behind_arm (P.Phase lists ∷ steps) = P.Phase lists ∷ steps
