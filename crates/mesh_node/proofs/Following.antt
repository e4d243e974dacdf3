-- The steps of a plan, one after another.
use Rattle.std.proofs.Common.{◌≡◌, ◌∙◌, inl, inr, ℕ, zero, suc, ◌+◌, ◌<◌, List, [], ◌∷◌, ◌++◌, length, take, drop, get_or, Option, refl, sym, ap, subst, arith}
use Rattle.std.specs.Prelude.{replicate}
use Rattle.std.specs.List.{Contains}
use Rattle.std.proofs.lemmas.List.{drop_more, length-map, length-replicate, take_more}
use Rattle.std.proofs.lemmas.List.Elements.{filter_map-append}
use Rattle.flash_model.specs.Chip.{Arm, Chip}
use Rattle.locked_node.specs.Node.{NodeView}
use Rattle.mesh_types.specs.declared.events.Event.{Event}
use Rattle.mesh_types.specs.declared.history.Sent.{Sent}
use Rattle.node_phase.specs.Part.{number_at}
use Rattle.report_definitions.specs.Record.{list_at}
use Rattle.run_definitions.specs.Order.{Step, phase_of, phases_of}
use Rattle.seq_word.specs.Seen.{DrawerView}
use Rattle.seq_word.specs.Rule.{times}
use Rattle.life_laws.specs.Hands.{AreHandledAll}
use Rattle.life_laws.specs.Pairs.{AreTimed, PairsSo}
use Rattle.life_laws.specs.Phases.{AreDone}
use Rattle.life_laws.proofs.Ordering.{none_done, ordered}
use Rattle.life_laws.proofs.Pairing.{empty_all, no_ends, no_pairs}
use Rattle.life_laws.proofs.Rising.{no_until}
use Rattle.life_laws.proofs.Timing.{no_times}
use Rattle.life_laws.specs.declared.plan.PlanStep.{PlanStep}
use Rattle.life_laws.specs.declared.plan.PlanStep.TheVariants as P
use Rattle.mesh_node.specs.Going.{IsGoing, IsOver}
use Rattle.life_laws.specs.Plan.{step_of, steps_of}
use Rattle.mesh_node.specs.Steps.{IsArmedBy, IsOfPlan, IsSameNode, IsSameOrOf, MayArm, MayFollow}

-- no step is done yet
empty_at : {A : Type 0} (n k : ℕ) → list_at {A = A} (replicate n []) k ≡ []
empty_at zero k = refl
empty_at (suc n) zero = refl
empty_at (suc n) (suc k) = empty_at n k

zero_at : (n k : ℕ) → number_at (replicate n 0) k ≡ 0
zero_at zero k = refl
zero_at (suc n) zero = refl
zero_at (suc n) (suc k) = zero_at n k

pub going_first : {F : Type 0} (node : NodeView F) (d : DrawerView) (n : ℕ) (sends : List (List Sent)) (counts : List ℕ) → node.machine.entries ≡ [] → node.counters ≡ [] → node.stops ≡ 0 → d.drawn ≡ []
    → sends ≡ replicate n [] → counts ≡ replicate n 0 → IsGoing [] node d sends counts
going_first node d n sends counts entries uncounted live drawn no_sends no_counts =
    let first : IsGoing [] node d (replicate n []) (replicate n 0) = record {
      ends = [];
      done = subst (λ es. AreDone [] es (replicate n []) (replicate n 0) []) (sym entries) (none_done (replicate n []) (replicate n 0) (empty_at n) (zero_at n));
      pairs = subst (λ es. PairsSo es node.machine.moves (replicate n []) d) (sym entries) (record { drawns = replicate n []; shown = no_pairs n node.machine.moves d.looks; counted = λ x. ap (times x) (empty_all n ∙ sym drawn); own = no_ends n d.looks; until = λ k. no_until n node.machine.moves k; long = omega arith });
      timed = subst (λ es. AreTimed es node.counters [] (replicate n [])) (sym entries) (subst (λ cs. AreTimed [] cs [] (replicate n [])) (sym uncounted) (no_times n));
      handled = subst (AreHandledAll []) (sym entries) (λ k. refl);
      live = live;
      many = length-replicate n [] ∙ sym (length-replicate n 0);
    } in
    subst (λ ss. IsGoing [] node d ss counts) (sym no_sends) (subst (λ cs. IsGoing [] node d (replicate n []) cs) (sym no_counts) first)

-- all steps are done
pub over_whole : {F : Type 0} (phases : List (List (List Event))) (node : NodeView F) (d : DrawerView) (sends : List (List Sent)) (counts : List ℕ) → IsGoing phases node d sends counts → IsOver phases node d sends
over_whole phases node d sends counts h = record {
  ends = h.ends;
  ordered = λ is_cut cut. ordered is_cut phases node.machine.entries sends counts h.ends h.done;
  numbers = λ k. (h.done.numbered k).numbers;
  pairs = h.pairs;
  timed = h.timed;
  next = λ some event hand out. absurd (let none : node.stops ≡ 0 = h.live in omega (arith, some, none));
  hand = λ some event hand out. absurd (let none : node.stops ≡ 0 = h.live in omega (arith, some, none));
}

pub phases_more : (xs : List Step) (x : Step) → phases_of (xs ++ x ∷ []) ≡ phases_of xs ++ phases_of (x ∷ [])
phases_more xs x = filter_map-append phase_of xs (x ∷ [])

steps_append : (xs ys : List PlanStep) → steps_of (xs ++ ys) ≡ steps_of xs ++ steps_of ys
steps_append [] ys = refl
steps_append (x ∷ xs) ys = ap (λ l. step_of x ∷ l) (steps_append xs ys)

-- the steps so far, with the one at place i
pub taken : (xs : List PlanStep) (i : ℕ) (x : PlanStep) → i < length xs → x ≡ get_or xs i x → take (i + 1) xs ≡ take i xs ++ x ∷ []
taken xs i x lt is = take_more xs i x lt ∙ ap (λ y. take i xs ++ y ∷ []) (sym is)

-- their phases
pub phases_taken : (xs : List PlanStep) (i : ℕ) (x : PlanStep) → i < length xs → x ≡ get_or xs i x → phases_of (steps_of (take (i + 1) xs)) ≡ phases_of (steps_of (take i xs)) ++ phases_of (step_of x ∷ [])
phases_taken xs i x lt is =
    ap (λ l. phases_of (steps_of l)) (taken xs i x lt is) ∙ ap phases_of (steps_append (take i xs) (x ∷ [])) ∙ phases_more (steps_of (take i xs)) (step_of x)

take_drop : {A : Type 0} (i : ℕ) (xs : List A) → take i xs ++ drop i xs ≡ xs
take_drop zero xs = refl
take_drop (suc i) [] = refl
take_drop (suc i) (x ∷ xs) = ap (λ l. x ∷ l) (take_drop i xs)

pub dropped : (xs : List PlanStep) (i : ℕ) (x : PlanStep) → i < length xs → x ≡ get_or xs i x → drop i xs ≡ x ∷ drop (i + 1) xs
dropped xs i x lt is = drop_more xs i x lt ∙ ap (λ y. y ∷ drop (i + 1) xs) (sym is)

-- the steps before the one at place i, it, and those behind it
pub around : (xs : List PlanStep) (i : ℕ) (x : PlanStep) → i < length xs → x ≡ get_or xs i x → steps_of xs ≡ steps_of (take i xs) ++ step_of x ∷ steps_of (drop (i + 1) xs)
around xs i x lt is =
    ap steps_of (sym (take_drop i xs)) ∙ steps_append (take i xs) (drop i xs) ∙ ap (λ l. steps_of (take i xs) ++ steps_of l) (dropped xs i x lt is)

-- those so far, the one at place i, and the rest
pub phases_around : (xs : List PlanStep) (i : ℕ) (x : PlanStep) → i < length xs → x ≡ get_or xs i x
    → phases_of (steps_of (take i xs)) ++ (phases_of (step_of x ∷ []) ++ phases_of (steps_of (drop (i + 1) xs))) ≡ phases_of (steps_of xs)
phases_around xs i x lt is =
    let rest = drop (i + 1) xs in
    let tail : phases_of (step_of x ∷ steps_of rest) ≡ phases_of (step_of x ∷ []) ++ phases_of (steps_of rest) = filter_map-append phase_of (step_of x ∷ []) (steps_of rest) in
    let whole : take i xs ++ x ∷ rest ≡ xs = ap (λ l. take i xs ++ l) (sym (dropped xs i x lt is)) ∙ take_drop i xs in
    ap (λ l. phases_of (steps_of (take i xs)) ++ l) (sym tail) ∙ sym (filter_map-append phase_of (steps_of (take i xs)) (step_of x ∷ steps_of rest))
    ∙ ap phases_of (sym (steps_append (take i xs) (x ∷ rest))) ∙ ap (λ l. phases_of (steps_of l)) whole

-- the order to tear a call
pub may_arm : (x : PlanStep) (rest : List PlanStep) (chip : Chip) → MayFollow (x ∷ rest) chip.setting.arm → MayArm x chip
may_arm (P.Arm calls mask) rest chip (inl h) = h.0
may_arm (P.Arm calls mask) rest chip (inr bad) = absurd bad
may_arm (P.Phase lists) rest chip h = tt

pub may_more : (x : PlanStep) (rest : List PlanStep) (old new : Chip) → MayFollow (x ∷ rest) old.setting.arm → IsArmedBy x old new → MayFollow rest new.setting.arm
may_more (P.Arm calls mask) rest old new (inl h) is = inr h.1
may_more (P.Arm calls mask) rest old new (inr bad) is = absurd bad
may_more (P.Phase lists) rest old new (inl h) same = inl (same ∙ h.0, h.1)
may_more (P.Phase lists) rest old new (inr h) same = inr h

pub order_more : (plan : List Step) (x : PlanStep) (first : Option Arm) (old new : Chip) → Contains plan (step_of x) → IsSameOrOf plan first old.setting.arm → IsArmedBy x old new
    → IsSameOrOf plan first new.setting.arm
order_more plan (P.Arm calls mask) first old new among was is = inr (subst (IsOfPlan plan) (sym is) among)
order_more plan (P.Phase lists) first old new among (inl was) same = inl (same ∙ was)
order_more plan (P.Phase lists) first old new among (inr was) same = inr (subst (IsOfPlan plan) (sym same) was)

step_at : (xs : List PlanStep) (k : ℕ) (x : PlanStep) → get_or (steps_of xs) k (step_of x) ≡ step_of (get_or xs k x)
step_at [] zero x = refl
step_at [] (suc k) x = refl
step_at (y ∷ xs) zero x = refl
step_at (y ∷ xs) (suc k) x = step_at xs k x

pub among_steps : (xs : List PlanStep) (i : ℕ) (x : PlanStep) → i < length xs → x ≡ get_or xs i x → Contains (steps_of xs) (step_of x)
among_steps xs i x lt is = (i, subst (λ n. i < n) (sym (length-map xs step_of)) lt, step_at xs i x ∙ ap step_of (sym is))

pub same_more : {F : Type 0} (a b c : NodeView F) → IsSameNode a b → IsSameNode b c → IsSameNode a c
same_more a b c h i = record { start = i.start ∙ h.start; which = i.which ∙ h.which; elements = i.elements ∙ h.elements }
