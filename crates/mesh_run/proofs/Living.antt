-- The plan of one life, and how many lives there are.
use Rattle.std.proofs.Common.{◌≡◌, ◌<◌, ℕ, List, [], length, get_or, ap, ◌∙◌, subst, map, sym, arith}
use Rattle.std.specs.Prelude.{◌≤◌, All, slice_index_or}
use Rattle.std.proofs.lemmas.List.{get_or-map, length-map}
use Rattle.flash_model.specs.Chip.{Chip}
use Rattle.life_plans.specs.Plans.{IsPlanFor, plan_of_lines}
use Rattle.machine_contract.specs.Opening.{EachRecovered}
use Rattle.mesh_node.specs.Lives.{IsPlanned}
use Rattle.life_laws.specs.Plan.{IsStep}
use Rattle.life_laws.specs.declared.plan.LifePlan.{LifePlan}
use Rattle.run_definitions.specs.Order.{Step}
use Rattle.script_definitions.specs.declared.line.ScriptLine.{ScriptLine}
use Rattle.store_definitions.specs.Config.{config_of}

-- the plan of the lines of a life is the one of the script
pub plan_is : (lives : List (List ScriptLine)) (i : ℕ) (lines : List ScriptLine) (steps : List Step) → lines ≡ get_or lives i [] → i < length lives
    → steps ≡ plan_of_lines lines → steps ≡ slice_index_or (map plan_of_lines lives) i []
plan_is lives i lines steps are within is = is ∙ ap plan_of_lines are ∙ sym (get_or-map plan_of_lines lives i [] [] within)

-- a plan for the node that each image recovers
pub planned : (chip : Chip) (elements : ℕ) (plan : LifePlan) → plan.bearers ≡ 8 → IsPlanFor elements plan
    → EachRecovered chip (λ records. (config_of records).elements ≡ elements) → IsPlanned chip plan
planned chip elements plan eight fits each = record {
  few = omega (arith, eight);
  arm = fits.arm;
  steps = λ image records is read. subst (λ n. All (IsStep plan.bearers n) plan.steps.items) (sym (each image records is read)) fits.steps;
}

-- a place below the number of lives is one of the script's plans, and past it there is none
pub is_within : (lives : List (List ScriptLine)) (n i : ℕ) → n ≡ length lives → i < n → i < length (map plan_of_lines lives)
is_within lives n i same within = rw (length-map lives plan_of_lines, ← same) within

pub is_past : (lives : List (List ScriptLine)) (n i : ℕ) → n ≡ length lives → n ≤ i → length (map plan_of_lines lives) ≤ i
is_past lives n i same past = rw (length-map lives plan_of_lines, ← same) past
