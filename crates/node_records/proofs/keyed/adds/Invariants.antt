use Rattle.std.proofs.Common.{◌≡◌, drop}
use Rattle.node_records.specs.Growth.{is_new}
use Rattle.node_records.proofs.keyed.adds.Given as goal

abbrev pub invariant-loop-row : goal.invariant-loop-row
invariant-loop-row g l = is_new g.R.Keyed.key l.number (drop l.row-index l.rows) ≡ is_new g.R.Keyed.key l.number l.rows
