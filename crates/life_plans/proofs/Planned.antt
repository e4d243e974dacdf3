-- What the plan of a life of a script is like: at most one order to tear a call, and events that the node may have.
use Rattle.std.proofs.Common.{◌≡◌, ℕ, ◌+◌, ◌≤◌, Bool, true, false, IsTrue, List, [], ◌∷◌, ◌++◌, length, get_or, map, arith, ◌∙◌, sym, refl, subst, ◌==◌, if◌then◌else◌, cond, Option, Some, None}
use Rattle.std.specs.Prelude.{All, IfOk, IfSome, Result, Ok, Err, ⊤, count_by}
use Rattle.std.specs.List.{cons_option, range_with_len}
use Rattle.std.proofs.lemmas.List.{get_or-map, length-map}
use Rattle.std.proofs.lemmas.List.Elements.{All-nil, All-cons, All-head, All-tail, All-map, All-push}
use Rattle.std.proofs.lemmas.Bool.Decides.{nat_tests}
use Rattle.std.proofs.lemmas.List.Sums.{sum_by-cons}
use Rattle.std.proofs.lemmas.List.FromFn.{length-map-range_with_len}
use Rattle.node_limits.specs.declared.TheConstants.{BEARERS}
use Rattle.life_plans.proofs.Bearers.{lists_of}
use Rattle.life_plans.specs.Plans.{IsPlanFor, plan_of_lines, step_of}
use Rattle.machine_contract.specs.Ranges.{IsEvent}
use Rattle.machine_contract.specs.Ranges as Asked
use Rattle.life_laws.specs.Plan.{AreUnarmed, HasOneArm, IsStep, steps_of}
use Rattle.life_laws.specs.Plan as Plan
use Rattle.life_laws.specs.declared.plan.LifePlan.{LifePlan}
use Rattle.life_laws.specs.declared.plan.PlanStep.{PlanStep}
use Rattle.life_laws.specs.declared.plan.PlanStep.TheVariants as P
use Rattle.mesh_types.specs.declared.events.Event.{Event}
use Rattle.mesh_types.specs.declared.events.SendKey.{SendKey}
use Rattle.mesh_types.specs.declared.events.SendKey.TheVariants as K
use Rattle.node_bearer.specs.Did.{AreEvents}
use Rattle.run_definitions.specs.Order.{Step, is_outside}
use Rattle.run_definitions.specs.Order.Step.{arm, phase}
use Rattle.script_definitions.specs.Events.{Happening, event_on, events_on, happening_of}
use Rattle.script_definitions.specs.Lines.{is_send_dst}
use Rattle.script_definitions.specs.Phases as Said
use Rattle.script_definitions.specs.Phases.{phase_of, steps_from}
use Rattle.script_definitions.specs.Ranges.{IsLife, IsLine, IsSendKey}
use Rattle.script_definitions.specs.Reading.{is_arm}
use Rattle.script_definitions.specs.declared.kind.Grammar.{Grammar}
use Rattle.script_definitions.specs.declared.line.ArmLine.{ArmLine}
use Rattle.script_definitions.specs.declared.line.ScriptLine.{ScriptLine}
use Rattle.script_definitions.specs.declared.line.ScriptLine.TheVariants as L

-- the same of a run's steps
abbrev Unarmed : List Step → Type 0
Unarmed [] = ⊤
Unarmed (arm calls mask ∷ steps) = ⊥
Unarmed (phase events ∷ steps) = Unarmed steps

abbrev OneArm : List Step → Type 0
OneArm [] = ⊤
OneArm (arm calls mask ∷ steps) = Unarmed steps
OneArm (phase events ∷ steps) = OneArm steps

abbrev Fits : ℕ → Step → Type 0
Fits elements (arm calls mask) = ⊤
Fits elements (phase events) = (length events ≡ BEARERS) × All (AreEvents elements) events

-- what stands behind a phase

behind_unarmed : (lines : List ScriptLine) (more : List Said.PlanStep) → Unarmed (map step_of more) → Unarmed (map step_of (phase_of lines ++ more))
behind_unarmed [] more h = h
behind_unarmed (line ∷ lines) more h = h

behind_one : (lines : List ScriptLine) (more : List Said.PlanStep) → OneArm (map step_of more) → OneArm (map step_of (phase_of lines ++ more))
behind_one [] more h = h
behind_one (line ∷ lines) more h = h

last_unarmed : (lines : List ScriptLine) → Unarmed (map step_of (phase_of lines))
last_unarmed [] = tt
last_unarmed (line ∷ lines) = tt

last_one : (lines : List ScriptLine) → OneArm (map step_of (phase_of lines))
last_one [] = tt
last_one (line ∷ lines) = tt

counted : (order : ArmLine) (more : List ScriptLine) → count_by is_arm (L.Arm order ∷ more) ≡ 1 + count_by is_arm more
counted order more = sum_by-cons (λ (line : ScriptLine). cond (is_arm line) 1 0) (L.Arm order) more

unarmed : (lines more : List ScriptLine) → count_by is_arm more ≤ 0 → Unarmed (map step_of (steps_from lines more))
unfolding steps_from
unarmed lines [] h = last_unarmed lines
unarmed lines (L.Sync ∷ more) h = behind_unarmed lines (steps_from [] more) (unarmed [] more h)
unarmed lines (L.Arm order ∷ more) h = absurd (omega (arith, counted order more))
unarmed lines (line ∷ more) h = unarmed (lines ++ line ∷ []) more h

one_arm : (lines more : List ScriptLine) → count_by is_arm more ≤ 1 → OneArm (map step_of (steps_from lines more))
unfolding steps_from
one_arm lines [] h = last_one lines
one_arm lines (L.Sync ∷ more) h = behind_one lines (steps_from [] more) (one_arm [] more h)
one_arm lines (L.Arm order ∷ more) h = behind_one lines (Said.arms order ∷ steps_from [] more) (unarmed [] more (omega (arith, counted order more)))
one_arm lines (line ∷ more) h = one_arm (lines ++ line ∷ []) more h

-- the events of lines

send_dst : (dst : ℕ) → IsTrue (is_send_dst dst) → (1 ≤ dst) × (0x8000 ≤ dst → 0xc000 ≤ dst)
send_dst dst h = grind (arith, nat_tests)

send_key : (key : SendKey) → IsSendKey key → Asked.IsSendKey key
send_key K.Own h = tt
send_key (K.Other key) h = tt
send_key (K.App index) h = h

abbrev IsPlanned : ℕ → Event → Type 0
IsPlanned elements event = IsTrue (is_outside event) × IsEvent elements event

event_fits : (g : Grammar) (elements : ℕ) (line : ScriptLine) → IsLine g elements line → IfSome (happening_of line) (λ h. IsPlanned elements h.event)
event_fits g elements (L.Net bearer octets) h = (refl, tt)
event_fits g elements (L.Bcn bearer octets) h = (refl, tt)
event_fits g elements (L.Peer bearer peer) h = (refl, tt)
event_fits g elements (L.Talk bearer talk) h = (refl, tt)
event_fits g elements (L.Beacon bearer beacon) h = (refl, tt)
event_fits g elements (L.Send bearer send) h =
    let s = h.1 in
    let dst = send_dst send.dst.0 s.dst in
    (refl, (s.element, dst.0, dst.1, s.ttl, send_key send.key s.key, s.payload.0, s.payload.1))
event_fits g elements (L.Raw bearer raw) h = (refl, h.1)
event_fits g elements (L.Tick bearer ticks) h = (refl, tt)
event_fits g elements L.Sync h = tt
event_fits g elements (L.Arm order) h = tt
event_fits g elements (L.Seek bearer) h = (refl, tt)
event_fits g elements (L.Poll bearer) h = (refl, tt)
event_fits g elements (L.List bearer address) h = (refl, tt)

module _ (P : Event → Type 0) where
  kept : (t : Bool) (event : Event) → P event → IfSome (if t then Some event else None) P
  kept true event h = h
  kept false event h = tt

  on_bearer : (k : ℕ) (o : Option Happening) → IfSome o (λ h. P h.event) → IfSome (event_on k o) P
  on_bearer k None h = tt
  on_bearer k (Some happening) h = kept (happening.bearer == k) happening.event h

  one_more : (o : Option Event) (events : List Event) → IfSome o P → All P events → All P (cons_option o events)
  one_more None events h rest = rest
  one_more (Some event) events h rest = All-cons P event events h rest

events_fit : (g : Grammar) (elements k : ℕ) (lines : List ScriptLine) → All (IsLine g elements) lines → AreEvents elements (events_on k lines)
events_fit g elements k [] h = All-nil (IsPlanned elements)
events_fit g elements k (line ∷ lines) h =
    one_more (IsPlanned elements) (event_on k (happening_of line)) (events_on k lines)
    (on_bearer (IsPlanned elements) k (happening_of line) (event_fits g elements line (All-head (IsLine g elements) line lines h)))
    (events_fit g elements k lines (All-tail (IsLine g elements) line lines h))

phase_fits : (g : Grammar) (elements : ℕ) (lines : List ScriptLine) → All (IsLine g elements) lines → Fits elements (phase (lists_of lines))
phase_fits g elements lines h = (
  length-map-range_with_len (λ k. events_on k lines) 0 BEARERS,
  All-map (AreEvents elements) (λ k. events_on k lines) (range_with_len 0 BEARERS) (λ i d l. events_fit g elements (get_or (range_with_len 0 BEARERS) i d) lines h),
)

last_fits : (g : Grammar) (elements : ℕ) (lines : List ScriptLine) → All (IsLine g elements) lines → All (Fits elements) (map step_of (phase_of lines))
last_fits g elements [] h = All-nil (Fits elements)
last_fits g elements (line ∷ lines) h = All-cons (Fits elements) (phase (lists_of (line ∷ lines))) [] (phase_fits g elements (line ∷ lines) h) (All-nil (Fits elements))

behind_fits : (g : Grammar) (elements : ℕ) (lines : List ScriptLine) (more : List Said.PlanStep) → All (IsLine g elements) lines
    → All (Fits elements) (map step_of more) → All (Fits elements) (map step_of (phase_of lines ++ more))
behind_fits g elements [] more h rest = rest
behind_fits g elements (line ∷ lines) more h rest =
    All-cons (Fits elements) (phase (lists_of (line ∷ lines))) (map step_of more) (phase_fits g elements (line ∷ lines) h) rest

steps_fit : (g : Grammar) (elements : ℕ) (lines more : List ScriptLine) → All (IsLine g elements) lines → All (IsLine g elements) more
    → All (Fits elements) (map step_of (steps_from lines more))
unfolding steps_from
steps_fit g elements lines [] h rest = last_fits g elements lines h
steps_fit g elements lines (L.Sync ∷ more) h rest =
    behind_fits g elements lines (steps_from [] more) h
    (steps_fit g elements [] more (All-nil (IsLine g elements)) (All-tail (IsLine g elements) L.Sync more rest))
steps_fit g elements lines (L.Arm line ∷ more) h rest =
    behind_fits g elements lines (Said.arms line ∷ steps_from [] more) h
    (All-cons (Fits elements) (arm line.calls line.mask) (map step_of (steps_from [] more)) tt
    (steps_fit g elements [] more (All-nil (IsLine g elements)) (All-tail (IsLine g elements) (L.Arm line) more rest)))
steps_fit g elements lines (line ∷ more) h rest =
    steps_fit g elements (lines ++ line ∷ []) more
    (All-push (IsLine g elements) lines line h (All-head (IsLine g elements) line more rest))
    (All-tail (IsLine g elements) line more rest)

-- what holds of a run's steps holds of the steps that they stand for

unarmed_of : (steps : List PlanStep) → Unarmed (steps_of steps) → AreUnarmed steps
unarmed_of [] h = tt
unarmed_of (P.Arm calls mask ∷ steps) h = h
unarmed_of (P.Phase lists ∷ steps) h = unarmed_of steps h

one_arm_of : (steps : List PlanStep) → OneArm (steps_of steps) → HasOneArm steps
one_arm_of [] h = tt
one_arm_of (P.Arm calls mask ∷ steps) h = unarmed_of steps h
one_arm_of (P.Phase lists ∷ steps) h = one_arm_of steps h

step_fits_of : (elements : ℕ) (step : PlanStep) → Fits elements (Plan.step_of step) → IsStep BEARERS elements step
step_fits_of elements (P.Arm calls mask) h = tt
step_fits_of elements (P.Phase lists) h = (
  sym (length-map lists.items (λ v. v.items)) ∙ h.0,
  λ k d l. subst (AreEvents elements) (get_or-map (λ v. v.items) lists.items k d d.items l) (h.1 k d.items (omega (arith, length-map lists.items (λ v. v.items)))),
)

steps_fit_of : (elements : ℕ) (steps : List PlanStep) → All (Fits elements) (steps_of steps) → All (IsStep BEARERS elements) steps
steps_fit_of elements steps h k d l =
    step_fits_of elements (get_or steps k d)
    (subst (Fits elements) (get_or-map Plan.step_of steps k d (Plan.step_of d) l) (h k (Plan.step_of d) (omega (arith, length-map steps Plan.step_of))))

pub planned : (g : Grammar) (elements : ℕ) (lines : List ScriptLine) (plan : LifePlan) → IsLife g elements lines → steps_of plan.steps.items ≡ plan_of_lines lines
    → plan.bearers ≡ BEARERS → IsPlanFor elements plan
planned g elements lines plan life value bearers = record {
  arm = one_arm_of plan.steps.items (subst OneArm (sym value) (one_arm [] lines life.arms));
  steps =
      subst (λ (n : ℕ). All (IsStep n elements) plan.steps.items) (sym bearers)
      (steps_fit_of elements plan.steps.items
      (subst (All (Fits elements)) (sym value) (steps_fit g elements [] lines (All-nil (IsLine g elements)) life.lines)));
}

pub planned_if_ok : {E : Type 0} (g : Grammar) (elements : ℕ) (lines : List ScriptLine) (r : Result LifePlan E) → IsLife g elements lines
    → IfOk r (λ p. steps_of p.steps.items ≡ plan_of_lines lines) → IfOk r (λ p. p.bearers ≡ BEARERS) → IfOk r (IsPlanFor elements)
planned_if_ok g elements lines (Ok plan) life value bearers = planned g elements lines plan life value bearers
planned_if_ok g elements lines (Err e) life value bearers = tt
