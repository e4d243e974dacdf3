use Rattle.std.proofs.Common.{◌≡◌, ◌∙◌, ◌++◌, ◌∷◌, [], Vec, Global, length, ap, refl, subst, sym}
use Rattle.std.specs.Prelude.{All}
use Rattle.std.proofs.lemmas.List.Elements.{All-cons, All-nil}
use Rattle.life_laws.specs.Plan.{HasOneArm, IsStep}
use Rattle.life_laws.specs.declared.plan.PlanStep.TheVariants as P
use Rattle.mesh_types.specs.declared.events.Event.{Event}
use Rattle.node_bearer.specs.Did.{AreEvents}
use Rattle.worked_machine.proofs.tests.hearing.hearing.Goals as goal

-- one phase, of a bearer that hears and one that has nothing to do
pub returns : goal.returns
returns c =
    let lists = c.push-2.new.self in
    let first = c.in_ok-heard.field-0 in
    let second = c.new.result in
    let are : lists.items ≡ first ∷ second ∷ [] =
    c.in_ok-push-2.ensures.items ∙ ap (λ v. v ++ second ∷ []) (c.in_ok-push.ensures.items ∙ ap (λ v. v ++ first ∷ []) c.new-lists.ensures.items) in
    let is : c.push-3.new.self.items ≡ P.Phase lists ∷ [] = c.in_ok-push-3.ensures.items ∙ ap (λ v. v ++ P.Phase lists ∷ []) c.new-steps.ensures.items in
    record {
      bearers = refl;
      arm = subst HasOneArm (sym is) tt;
      steps = λ elements.
          let Fits : Vec Event Global → Type 0 = λ v. AreEvents elements v.items in
          let idle : Fits second = subst (AreEvents elements) (sym c.new.ensures.items) (All-nil _) in
          let each : All Fits lists.items =
          subst (All Fits) (sym are) (All-cons Fits first (second ∷ []) (c.in_ok-heard.ensures.events elements) (All-cons Fits second [] idle (All-nil Fits))) in
          subst (All (IsStep 2 elements)) (sym is) (All-cons (IsStep 2 elements) (P.Phase lists) [] (ap (λ v. length v) are, each) (All-nil (IsStep 2 elements)));
    }
