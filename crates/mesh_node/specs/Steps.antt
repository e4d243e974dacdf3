-- What a step leaves of a node besides what its bearers did.
use Rattle.std.specs.Prelude.{◌≡◌, ◌≢◌, ◌⊎◌, ℕ, List, [], ◌∷◌, Option, Some, None, IsSomeAnd, IsTrue, ⊤}
use Rattle.std.specs.List.{Contains}
use Rattle.flash_model.specs.Chip.{Arm, Chip, Remembers, count_of}
use Rattle.machine_contract.specs.Standing.{IsSameFlash}
use Rattle.run_definitions.specs.Order.{Step, arm}
use Rattle.life_laws.specs.Plan.{AreUnarmed, HasOneArm}
use Rattle.locked_node.specs.Node.{NodeView}
use Rattle.life_laws.specs.declared.plan.PlanStep.{PlanStep}
use Rattle.life_laws.specs.declared.plan.PlanStep.TheVariants as P

-- the same machine, over a flash that the life found as it did
pub record IsSameNode {F : Type 0} (old new : NodeView F) : Type 0 where
  pub start : new.start ≡ old.start
  pub which : new.machine.which ≡ old.machine.which
  pub elements : new.machine.elements ≡ old.machine.elements

-- the order that the flash was given
abbrev pub IsArmedBy : PlanStep → Chip → Chip → Type 0
IsArmedBy (P.Arm calls mask) old new =
    new.setting.arm ≡ Some (record { calls = calls; mask = mask; changes = old.changes })
IsArmedBy (P.Phase lists) old new = new.setting.arm ≡ old.setting.arm

-- before an order to tear a call there was none
abbrev pub MayArm : PlanStep → Chip → Type 0
MayArm (P.Arm calls mask) chip = chip.setting.arm ≡ None
MayArm (P.Phase lists) chip = ⊤

-- an order is one of the plan
abbrev pub IsOfPlan : List Step → Option Arm → Type 0
IsOfPlan plan None = ⊤
IsOfPlan plan (Some a) = Contains plan (arm a.calls a.mask)

-- the order that the flash had before, or one of the plan
abbrev pub IsSameOrOf : List Step → Option Arm → Option Arm → Type 0
IsSameOrOf plan old new = (new ≡ old) ⊎ IsOfPlan plan new

-- steps that may follow where the flash has this order
abbrev pub MayFollow : List PlanStep → Option Arm → Type 0
MayFollow steps order = ((order ≡ None) × HasOneArm steps) ⊎ AreUnarmed steps

-- the order that stands first among steps
abbrev pub first_order : List PlanStep → ℕ → Option Arm
first_order [] changes = None
first_order (P.Arm calls mask ∷ steps) changes = Some (record { calls = calls; mask = mask; changes = changes })
first_order (P.Phase lists ∷ steps) changes = None

-- where there is one, the flash has one
abbrev pub IsFirstGiven : List PlanStep → Option Arm → Type 0
IsFirstGiven [] order = ⊤
IsFirstGiven (P.Arm calls mask ∷ steps) order = order ≢ None
IsFirstGiven (P.Phase lists ∷ steps) order = ⊤

-- where these steps have an order to tear a call, the flash has one; and it is that one
abbrev pub HasGiven : List Step → Option Arm → Type 0
HasGiven steps order = (calls mask : ℕ) → Contains steps (arm calls mask) → order ≢ None

abbrev pub IsGiven : List Step → Option Arm → Type 0
IsGiven steps order =
    (calls mask : ℕ) → Contains steps (arm calls mask) → IsSomeAnd order (λ a. (a.calls ≡ calls) × (a.mask ≡ mask))

-- the flash was given the order that stands first, if there is one; else it is as it was
pub record IsArmedFirst (steps : List PlanStep) (old new : Chip) : Type 0 where
  pub order : new.setting.arm ≡ first_order steps old.changes
  pub steady : new.steady ≡ old.steady
  pub cycles : new.setting.cycles ≡ old.setting.cycles
  pub saved : new.setting.saved ≡ old.setting.saved
  pub count : count_of new ≡ count_of old
  pub reads : new.reads ≡ old.reads
  pub past : Remembers old new
  pub same : IsTrue old.honest → IsSameFlash old new
