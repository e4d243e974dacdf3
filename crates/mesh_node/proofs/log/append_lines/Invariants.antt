-- What was taken, and what is left.
use Rattle.std.proofs.Common.{◌≡◌, ◌+◌, ◌++◌, length, map, take, drop}
use Rattle.std.specs.Vec.Iter.{into_iter_items, into_iter_len}
use Rattle.life_laws.specs.Phases.{both_of}
use Rattle.mesh_node.proofs.log.append_lines.Given as goal

abbrev pub invariant-loop-lines : goal.invariant-loop-lines
invariant-loop-lines l = record {
  can_next : goal.iterator-loop-lines.can_next l.lines-iterator;
  is_finite : goal.iterator-loop-lines.is_finite l.lines-iterator;
  len : into_iter_len l.lines-iterator ≡ length (into_iter_items l.lines-iterator);
  count : l.k + length (into_iter_items l.lines-iterator) ≡ length l.fn.more.items;
  long : length l.sends ≡ length l.fn.more.items;
  lines : take l.k (map (λ x. x.items) l.sends) ++ both_of (drop l.k (map (λ x. x.items) l.sends)) (map (λ x. x.items) (into_iter_items l.lines-iterator))
      ≡ both_of (map (λ x. x.items) l.initial.sends) (map (λ x. x.items) l.fn.more.items);
}
