-- What was taken, and what is left.
use Rattle.std.proofs.Common.{◌≡◌, ◌+◌, ◌++◌, length, map, take}
use Rattle.std.specs.Vec.Iter.{into_iter_items, into_iter_len}
use Rattle.node_phase.specs.Part.{lines_of}
use Rattle.mesh_node.proofs.log.take_lines.Given as goal

abbrev pub invariant-loop-done : goal.invariant-loop-done
invariant-loop-done l = record {
  can_next : goal.iterator-loop-done.can_next l.done-iterator;
  is_finite : goal.iterator-loop-done.is_finite l.done-iterator;
  len : into_iter_len l.done-iterator ≡ length (into_iter_items l.done-iterator);
  count : l.k + length (into_iter_items l.done-iterator) ≡ length l.fn.dones.items;
  counts_long : length l.counts ≡ length l.fn.dones.items;
  lines : map (λ x. x.items) l.sends.items ++ map lines_of (into_iter_items l.done-iterator) ≡ map lines_of l.fn.dones.items;
  numbers : take l.k l.counts ++ map (λ x. x.number) (into_iter_items l.done-iterator) ≡ map (λ x. x.number) l.fn.dones.items;
}
