-- An order of the plan was given.
use Rattle.std.proofs.Common.{◌≡◌, ◌≢◌, ◌∙◌, inl, inr, ℕ, ◌≤◌, zero, suc, List, [], ◌∷◌, ◌++◌, Option, Some, None, refl, sym, arith}
use Rattle.std.specs.List.{Contains}
use Rattle.flash_model.specs.Arming.{IsReached, IsTornLast, IsWithin}
use Rattle.flash_model.specs.Chip.{Arm, Chip}
use Rattle.mesh_types.specs.declared.events.Event.{Event}
use Rattle.run_definitions.specs.Order.{arm, phase}
use Rattle.life_laws.specs.declared.plan.PlanStep.{PlanStep}
use Rattle.life_laws.specs.declared.plan.PlanStep.TheVariants as P
use Rattle.life_laws.specs.Plan.{AreUnarmed, HasOneArm, behind_arm, step_of, steps_of}
use Rattle.mesh_node.specs.Steps.{HasGiven, IsArmedBy, IsFirstGiven, IsGiven, IsOfPlan}
use Rattle.mesh_node.proofs.Arming.{among_more}

-- one step more
before_phase : (xs : List PlanStep) (y : PlanStep) (calls mask : ℕ) → (step_of y ≡ arm calls mask → ⊥) → Contains (steps_of (xs ++ y ∷ [])) (arm calls mask) → Contains (steps_of xs) (arm calls mask)
before_phase [] y calls mask other (zero, lt, e) = absurd (other e)
before_phase [] y calls mask other (suc k, lt, e) = absurd (omega (arith, lt))
before_phase (x ∷ xs) y calls mask other (zero, lt, e) = (0, omega arith, e)
before_phase (x ∷ xs) y calls mask other (suc k, lt, e) = among_more (step_of x) (steps_of xs) (arm calls mask) (before_phase xs y calls mask other (k, omega (arith, lt), e))

pub is_phase : (p : List (List Event)) (calls mask : ℕ) → phase p ≡ arm calls mask → ⊥
is_phase p calls mask e = cc

pub held_more : (x : PlanStep) (old new : Chip) → IsArmedBy x old new → old.setting.arm ≢ None → new.setting.arm ≢ None
held_more (P.Arm calls mask) old new is h none = cc
held_more (P.Phase lists) old new same h none = h (sym same ∙ none)

pub given_more : (xs : List PlanStep) (x : PlanStep) (old new : Chip) → IsArmedBy x old new → HasGiven (steps_of xs) old.setting.arm → HasGiven (steps_of (xs ++ x ∷ [])) new.setting.arm
given_more xs (P.Arm c m) old new is h calls mask among none = cc
given_more xs (P.Phase lists) old new same h calls mask among none =
    h calls mask (before_phase xs (P.Phase lists) calls mask (λ e. is_phase _ calls mask e) among) (sym same ∙ none)

pub given_none : (o : Option Arm) → HasGiven [] o
given_none o calls mask (k, lt, e) none = absurd (omega (arith, lt))

-- the order that stands first, and those behind it
pub given_whole : (xs : List PlanStep) (before now : Option Arm) → IsFirstGiven xs before → (before ≢ None → now ≢ None) → HasGiven (steps_of (behind_arm xs)) now → HasGiven (steps_of xs) now
given_whole [] before now first held h = h
given_whole (P.Arm c m ∷ xs) before now first held h = λ calls mask among. held first
given_whole (P.Phase lists ∷ xs) before now first held h = h

-- where the flash was given one of a plan with one order, it is that one
unarmed_none : (xs : List PlanStep) (calls mask : ℕ) → AreUnarmed xs → Contains (steps_of xs) (arm calls mask) → ⊥
unarmed_none [] calls mask h (k, lt, e) = absurd (omega (arith, lt))
unarmed_none (P.Arm c m ∷ xs) calls mask h among = absurd h
unarmed_none (P.Phase lists ∷ xs) calls mask h (zero, lt, e) = is_phase _ calls mask e
unarmed_none (P.Phase lists ∷ xs) calls mask h (suc k, lt, e) = unarmed_none xs calls mask h (k, omega (arith, lt), e)

same_order : (xs : List PlanStep) (calls mask a b : ℕ) → HasOneArm xs → Contains (steps_of xs) (arm calls mask) → Contains (steps_of xs) (arm a b) → arm a b ≡ arm calls mask
same_order [] calls mask a b h (k, lt, e) i = absurd (omega (arith, lt))
same_order (P.Arm c m ∷ xs) calls mask a b h (zero, lt, e) (zero, lt', e') = sym e' ∙ e
same_order (P.Arm c m ∷ xs) calls mask a b h (zero, lt, e) (suc k, lt', e') = absurd (unarmed_none xs a b h (k, omega (arith, lt'), e'))
same_order (P.Arm c m ∷ xs) calls mask a b h (suc k, lt, e) i = absurd (unarmed_none xs calls mask h (k, omega (arith, lt), e))
same_order (P.Phase lists ∷ xs) calls mask a b h (zero, lt, e) i = absurd (is_phase _ calls mask e)
same_order (P.Phase lists ∷ xs) calls mask a b h (suc k, lt, e) (zero, lt', e') = absurd (is_phase _ a b e')
same_order (P.Phase lists ∷ xs) calls mask a b h (suc k, lt, e) (suc j, lt', e') = same_order xs calls mask a b h (k, omega (arith, lt), e) (j, omega (arith, lt'), e')

arm_parts : (a b c m : ℕ) → arm a b ≡ arm c m → (a ≡ c) × (b ≡ m)
arm_parts a b c m e = (cc, cc)

pub given_one : (xs : List PlanStep) (o : Option Arm) → HasOneArm xs → IsOfPlan (steps_of xs) o → HasGiven (steps_of xs) o → IsGiven (steps_of xs) o
given_one xs None one is h calls mask among = absurd (h calls mask among refl)
given_one xs (Some x) one is h calls mask among = arm_parts x.calls x.mask calls mask (same_order xs calls mask x.calls x.mask one among is)

-- a flash that failed by its order has one
pub reached_some : (o : Option Arm) (n : ℕ) → IsReached o n → o ≢ None
reached_some None n h = absurd h
reached_some (Some a) n h = λ none. cc

-- where no call failed, only those before the torn one were begun
pub within_none : (o : Option Arm) (failed n : ℕ) → failed ≡ 0 → IsWithin o failed n → IsWithin o 0 n
within_none None failed n none h = tt
within_none (Some a) failed n none h = omega (arith, none, h)

-- where one failed, it was the torn one
pub last_torn : (o : Option Arm) (failed n : ℕ) → IsReached o n → IsWithin o failed n → failed ≤ 1 → n ≤ 4294967295 → IsTornLast o n
last_torn None failed n reached within once few = reached
last_torn (Some a) failed n (inl more) within once few = omega (arith, more, within, once, few)
last_torn (Some a) failed n (inr full) within once few = omega (arith, full, within, once)
