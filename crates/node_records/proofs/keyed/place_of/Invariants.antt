use Rattle.std.proofs.Common.{ℕ, ◌<◌, get_or}
use Rattle.node_records.proofs.keyed.place_of.Given as goal

abbrev pub invariant-loop-place : goal.invariant-loop-place
invariant-loop-place g l = (k : ℕ) (d : g.row.R.Denot) → k < l.place → g.R.Keyed.key (get_or l.rows k d) < l.number
