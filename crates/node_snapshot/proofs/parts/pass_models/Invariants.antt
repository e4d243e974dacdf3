use Rattle.std.proofs.Common.{◌≡◌, ◌-◌}
use Rattle.std.specs.List.{flat_map, range_with_len}
use Rattle.node_limits.specs.declared.TheConstants.{ELEMENTS}
use Rattle.node_snapshot.specs.Parts.{element_records}
use Rattle.node_snapshot.specs.Passing.{passed}
use Rattle.node_snapshot.proofs.parts.pass_models.Given as goal

abbrev pub invariant-loop-element : goal.invariant-loop-element
invariant-loop-element l = passed (flat_map (element_records l.onoffs l.levels) (range_with_len 0 ELEMENTS)) l.place ≡ passed (flat_map (element_records l.onoffs l.levels) (range_with_len l.element (ELEMENTS - l.element))) l.left
