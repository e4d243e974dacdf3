use Rattle.std.proofs.Common.{drop}
use Rattle.life_plans.proofs.Drafting.{IsDraftOf}
use Rattle.life_plans.proofs.planning.plan_of.Given as goal

abbrev pub invariant-loop-line : goal.invariant-loop-line
invariant-loop-line l = IsDraftOf l.lines l.draft (drop l.line-index l.lines)
