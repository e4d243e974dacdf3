use Rattle.std.proofs.Common.{arith, refl}
use Rattle.node_records.proofs.Sources.{no_row}
use Rattle.node_records.proofs.replay.row_of.Goals as goal

pub returns-then-is_at-clause-first : goal.returns-then-is_at-clause-first
returns-then-is_at-clause-first c = λ k d lt e. let below = c.place_of-place.ensures.before k d lt in omega (arith, below, e)

pub returns-else-is_at-clause-none : goal.returns-else-is_at-clause-none
returns-else-is_at-clause-none c =
    no_row c.args.rows.now c.place_of-place.result c.args.src c.requires.order c.place_of-place.ensures.before c.place_of-place.ensures.there (c.if-is_at.ensures.other refl)
