use Rattle.std.proofs.Common.{◌≡◌, drop}
use Rattle.std.specs.List.{flat_map}
use Rattle.node_snapshot.specs.Parts.{net_records}
use Rattle.node_snapshot.specs.Passing.{passed}
use Rattle.node_snapshot.proofs.parts.pass_nets.Given as goal

abbrev pub invariant-loop-row : goal.invariant-loop-row
invariant-loop-row l = passed (flat_map net_records l.rows) l.place ≡ passed (flat_map net_records (drop l.row-index l.rows)) l.left
