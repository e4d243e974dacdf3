-- The order that stands first in a plan, and the flash that a life finds.
use Rattle.std.proofs.Common.{◌≡◌, ◌∙◌, inl, inr, ℕ, suc, ◌+◌, List, [], ◌∷◌, Option, Some, None, refl, sym, ap, subst, arith}
use Rattle.std.specs.Prelude.{All, IsTrue}
use Rattle.std.specs.List.{Contains}
use Rattle.std.proofs.lemmas.List.Elements.{All-tail}
use Rattle.flash_model.proofs.Runs.{past_more, past_none}
use Rattle.flash_model.specs.Chip.{Arm, CallCount, Chip, IsFresh, KeepsCount, Setting, Stays, count_of}
use Rattle.machine_contract.specs.Opening.{IsNodeFlash}
use Rattle.run_definitions.specs.Order.{Step, arm, phases_of}
use Rattle.life_laws.specs.declared.plan.PlanStep.{PlanStep}
use Rattle.life_laws.specs.declared.plan.PlanStep.TheVariants as P
use Rattle.life_laws.specs.Plan.{HasOneArm, behind_arm, steps_of}
use Rattle.mesh_node.specs.Steps.{IsArmedFirst, IsFirstGiven, IsOfPlan, IsSameOrOf, MayFollow, first_order}

-- the steps behind it
pub behind_all : (Q : PlanStep → Type 0) (xs : List PlanStep) → All Q xs → All Q (behind_arm xs)
behind_all Q [] h = h
behind_all Q (P.Arm calls mask ∷ xs) h = All-tail Q (P.Arm calls mask) xs h
behind_all Q (P.Phase lists ∷ xs) h = h

pub behind_phases : (xs : List PlanStep) → phases_of (steps_of (behind_arm xs)) ≡ phases_of (steps_of xs)
behind_phases [] = refl
behind_phases (P.Arm calls mask ∷ xs) = refl
behind_phases (P.Phase lists ∷ xs) = refl

pub among_more : (y : Step) (xs : List Step) (x : Step) → Contains xs x → Contains (y ∷ xs) x
among_more y xs x h = (suc h.0, omega (arith, h.1), h.2)

order_later : (y : Step) (xs : List Step) (o : Option Arm) → IsOfPlan xs o → IsOfPlan (y ∷ xs) o
order_later y xs None h = tt
order_later y xs (Some a) h = among_more y xs (arm a.calls a.mask) h

order_behind : (xs : List PlanStep) (o : Option Arm) → IsOfPlan (steps_of (behind_arm xs)) o → IsOfPlan (steps_of xs) o
order_behind [] o h = h
order_behind (P.Arm calls mask ∷ xs) o h = order_later (arm calls mask) (steps_of xs) o h
order_behind (P.Phase lists ∷ xs) o h = h

pub order_whole : (xs : List PlanStep) (old new : Option Arm) → IsOfPlan (steps_of xs) old → IsSameOrOf (steps_of (behind_arm xs)) old new → IsOfPlan (steps_of xs) new
order_whole xs old new h (inl same) = subst (IsOfPlan (steps_of xs)) (sym same) h
order_whole xs old new h (inr one) = order_behind xs new one

-- the order
first_of : (xs : List PlanStep) (n : ℕ) → IsOfPlan (steps_of xs) (first_order xs n)
first_of [] n = tt
first_of (P.Arm calls mask ∷ xs) n = (0, omega arith, refl)
first_of (P.Phase lists ∷ xs) n = tt

first_may : (xs : List PlanStep) (n : ℕ) → HasOneArm xs → MayFollow (behind_arm xs) (first_order xs n)
first_may [] n h = inl (refl, tt)
first_may (P.Arm calls mask ∷ xs) n h = inr h
first_may (P.Phase lists ∷ xs) n h = inl (refl, h)

first_given : (xs : List PlanStep) (n : ℕ) → IsFirstGiven xs (first_order xs n)
first_given [] n = tt
first_given (P.Arm calls mask ∷ xs) n = λ none. cc
first_given (P.Phase lists ∷ xs) n = tt

-- the count of calls, by its parts
counted_as : (chip : Chip) (n : CallCount) → chip.changes ≡ n.calls → chip.erases ≡ n.erases → chip.octets ≡ n.octets → count_of chip ≡ n
counted_as chip n calls erases octets = λ i. record { calls = calls i; erases = erases i; octets = octets i }

-- the flash with the order, and without one
pub armed_by_first : (old new : Chip) (calls mask : ℕ) (xs : List PlanStep)
    → new.setting ≡ record old.setting { arm = Some (record { calls = calls; mask = mask; changes = old.changes }) } → KeepsCount old new → new.changes ≡ old.changes → new.erases ≡ old.erases → new.octets ≡ old.octets → new.reads ≡ old.reads → (IsTrue old.honest → Stays old new)
    → IsArmedFirst (P.Arm calls mask ∷ xs) old new
armed_by_first old new calls mask xs setting count changes erases octets reads stays = record {
  order = ap (λ (s : Setting). s.arm) setting;
  steady = count.steady;
  cycles = ap (λ (s : Setting). s.cycles) setting;
  saved = ap (λ (s : Setting). s.saved) setting;
  count = counted_as new (count_of old) changes erases octets;
  reads = reads;
  past = count.past;
  same = λ honest. record { honest = count.honest; stays = (stays honest).images; now = (stays honest).now; faults = count.faults; began = ap (λ (s : Setting). s.faults) setting; count = counted_as new (count_of old) changes erases octets; reads = reads };
}

pub armed_by_none : (chip : Chip) (xs : List PlanStep) → chip.setting.arm ≡ first_order xs chip.changes → IsArmedFirst xs chip chip
armed_by_none chip xs none = record { order = none; steady = refl; cycles = refl; saved = refl; count = refl; reads = refl; past = past_none chip; same = λ honest. record { honest = refl; stays = λ image among. among; now = refl; faults = refl; began = refl; count = refl; reads = refl } }

-- a flash that a life finds, where power was cycled and an order that stands first was given
pub record Powered (image : List ℕ → Type 0) (steps : List PlanStep) (old start : Chip) : Type 0 where
  pub is : old.images start.now
  pub fresh : IsFresh start
  pub node : IsNodeFlash image start
  pub began : start.setting.faults ≡ old.faults
  pub count : KeepsCount old start
  pub cycles : start.setting.cycles ≡ old.setting.cycles + 1
  pub uncalled : count_of start ≡ record { calls = 0; erases = 0; octets = 0 }
  pub unread : start.reads ≡ 0
  pub read : start.setting.saved ≡ start.now
  pub order : IsOfPlan (steps_of steps) start.setting.arm
  pub first : IsFirstGiven steps start.setting.arm
  pub armed : start.setting.arm ≡ first_order steps 0
  pub may : HasOneArm steps → MayFollow (behind_arm steps) start.setting.arm

pub powered : (image : List ℕ → Type 0) (steps : List PlanStep) (old cycled start : Chip) → IsNodeFlash image old → KeepsCount old cycled → (IsTrue old.honest → IsFresh cycled) → (IsTrue old.honest → old.images cycled.now)
    → cycled.setting ≡ record { faults = old.faults; arm = None; saved = cycled.now; moment = cycled.moment; called = 0; programmed = 0; cycles = old.setting.cycles + 1 } → cycled.changes ≡ 0 → cycled.erases ≡ 0 → cycled.octets ≡ 0 → cycled.reads ≡ 0 → IsArmedFirst steps cycled start → Powered image steps old start
powered image steps old cycled start h count fresh is setting none unerased unprogrammed unread armed =
    let cold = fresh h.honest in
    let same = armed.same cold.honest in
    let was = is h.honest in
    let only : (c : List ℕ) → start.images c → c ≡ cycled.now = λ c among. cold.only c (same.stays c among) in
    record {
      is = subst old.images (sym same.now) was;
      fresh = record { honest = subst IsTrue (sym same.honest) cold.honest; only = λ c among. only c among ∙ sym same.now };
      node = record { honest = subst IsTrue (sym same.honest) cold.honest; each = λ c among. subst image (sym (only c among)) (h.each cycled.now was) };
      began = same.began ∙ ap (λ (s : Setting). s.faults) setting;
      count = record { honest = same.honest ∙ count.honest; steady = armed.steady ∙ count.steady; faults = same.faults ∙ count.faults; past = past_more old cycled start count.past armed.past };
      cycles = armed.cycles ∙ ap (λ (s : Setting). s.cycles) setting;
      uncalled = armed.count ∙ counted_as cycled (record { calls = 0; erases = 0; octets = 0 }) none unerased unprogrammed;
      unread = armed.reads ∙ unread;
      read = armed.saved ∙ ap (λ (s : Setting). s.saved) setting ∙ sym same.now;
      order = subst (IsOfPlan (steps_of steps)) (sym armed.order) (first_of steps cycled.changes);
      first = subst (IsFirstGiven steps) (sym armed.order) (first_given steps cycled.changes);
      armed = armed.order ∙ ap (first_order steps) none;
      may = λ one. subst (MayFollow (behind_arm steps)) (sym armed.order) (first_may steps cycled.changes one);
    }
