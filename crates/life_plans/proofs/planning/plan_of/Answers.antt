use Rattle.std.proofs.Common.{◌≡◌, ◌∙◌, ◌+◌, ◌<◌, ap, arith, sym, subst, List, [], ◌∷◌, drop, length}
use Rattle.std.proofs.lemmas.List.{drop_more, drop_all}
use Rattle.std.proofs.lemmas.Result.{IfOk-weaker}
use Rattle.life_plans.proofs.Drafting.{IsDraftOf, finishes, turn}
use Rattle.life_plans.proofs.Planned.{planned_if_ok}
use Rattle.life_plans.specs.Drafts.{Drafted, ended}
use Rattle.life_laws.specs.Plan.{steps_of}
use Rattle.life_plans.specs.Plans.{plan_of_lines}
use Rattle.life_laws.specs.declared.plan.LifePlan.{LifePlan}
use Rattle.script_definitions.specs.declared.line.ScriptLine.{ScriptLine}
use Rattle.script_events.specs.Happenings.{IsRead}
use Rattle.std.specs.Prelude.{IfOk, Result}
use Rattle.life_plans.proofs.planning.plan_of.Goals as goal

pub add-requires : goal.add-requires
add-requires c = record {
  ranges = subst IsRead (sym c.line-item.is) (c.requires.ranges c.loop-line.line-index c.line-item.result (omega arith));
}

pub loop-line-preserved : goal.loop-line-preserved
loop-line-preserved c =
    let lines = c.args.lines.now in
    let i = c.loop-line.line-index in
    let line = c.line-item.result in
    let within : i < length lines = omega arith in
    let read : IsRead line = subst IsRead (sym c.line-item.is) (c.requires.ranges i line within) in
    let left : drop i lines ≡ line ∷ drop (i + 1) lines =
    drop_more lines i line within ∙ ap (λ (l : ScriptLine). l ∷ drop (i + 1) lines) (sym c.line-item.is) in
    subst (λ (d : Drafted). IsDraftOf lines d (drop (i + 1) lines)) (sym c.in_ok-add.ensures.ok)
    (turn lines c.loop-line.draft line (drop (i + 1) lines) read
    (subst (λ (rest : List ScriptLine). IsDraftOf lines c.loop-line.draft rest) left c.loop-line.invariant))

made : {E : Type 0} (r : Result LifePlan E) (lines : List ScriptLine) (d : Drafted) → IfOk r (λ p. steps_of p.steps.items ≡ ended d) → IsDraftOf lines d []
    → IfOk r (λ p. steps_of p.steps.items ≡ plan_of_lines lines)
made r lines d steps done =
    IfOk-weaker r (λ p. steps_of p.steps.items ≡ ended d) (λ p. steps_of p.steps.items ≡ plan_of_lines lines) (λ p e. e ∙ finishes lines d done) steps

pub returns-clause-value : goal.returns-clause-value
returns-clause-value c =
    let lines = c.args.lines.now in
    made c.into_plan.result lines c.loop-line.draft c.into_plan.ensures.steps
    (subst (λ (rest : List ScriptLine). IsDraftOf lines c.loop-line.draft rest) (drop_all c.loop-line.line-index lines (omega arith)) c.loop-line.invariant)

pub returns-clause-planned : goal.returns-clause-planned
returns-clause-planned c grammar elements life =
    let lines = c.args.lines.now in
    let done : IsDraftOf lines c.loop-line.draft [] =
    subst (λ (rest : List ScriptLine). IsDraftOf lines c.loop-line.draft rest) (drop_all c.loop-line.line-index lines (omega arith)) c.loop-line.invariant in
    planned_if_ok grammar elements lines c.into_plan.result life (made c.into_plan.result lines c.loop-line.draft c.into_plan.ensures.steps done) c.into_plan.ensures.bearers
