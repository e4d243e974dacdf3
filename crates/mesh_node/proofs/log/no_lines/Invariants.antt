use Rattle.std.proofs.Common.{◌≡◌, [], map}
use Rattle.std.specs.Prelude.{replicate}
use Rattle.mesh_node.proofs.log.no_lines.Given as goal

abbrev pub invariant-loop-bearer : goal.invariant-loop-bearer
invariant-loop-bearer l = map (λ x. x.items) l.sends.items ≡ replicate l._bearer []
