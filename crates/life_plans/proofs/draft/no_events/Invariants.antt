use Rattle.std.proofs.Common.{◌≡◌, [], map, replicate}
use Rattle.life_plans.proofs.draft.no_events.Given as goal

abbrev pub invariant-loop-bearer : goal.invariant-loop-bearer
invariant-loop-bearer l = map (λ v. v.items) l.events.items ≡ replicate l.bearer []
