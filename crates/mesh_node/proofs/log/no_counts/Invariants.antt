use Rattle.std.proofs.Common.{◌≡◌}
use Rattle.std.specs.Prelude.{replicate}
use Rattle.mesh_node.proofs.log.no_counts.Given as goal

abbrev pub invariant-loop-bearer : goal.invariant-loop-bearer
invariant-loop-bearer l = l.counts.items ≡ replicate l._bearer 0
