-- What is left to be joined and what was joined stand for all passes together.
use Rattle.std.proofs.Common.{◌≡◌, ◌+◌, false, ◌∷◌, length, map}
use Rattle.std.specs.List.{All, sum_by}
use Rattle.std.specs.Vec.Iter.{into_iter_items, into_iter_len}
use Rattle.turn_lock.specs.Entries.{KeptOf, Holds, merged}
use Rattle.turn_lock.specs.Views.{IsPassOf}
use Rattle.turn_lock.proofs.gather.join_all.Given as goal

abbrev pub invariant-loop-other : goal.invariant-loop-other
invariant-loop-other g l = record {
  can_next : (goal.iterator-loop-other g).can_next l.other-iterator;
  is_finite : (goal.iterator-loop-other g).is_finite l.other-iterator;
  len : into_iter_len l.other-iterator ≡ length (into_iter_items l.other-iterator);
  pass : IsPassOf l.turn l.all × (l.all.inside ≡ false);
  rest : All (λ p. IsPassOf l.turn p × (p.inside ≡ false)) (into_iter_items l.other-iterator);
  parts : l.all.parts + sum_by (λ p. p.parts) (into_iter_items l.other-iterator) ≡ l.initial.all.parts + sum_by (λ p. p.parts) l.fn.others.items;
  own : merged l.all.own (map (λ p. p.own) (into_iter_items l.other-iterator)) ≡ merged l.initial.all.own (map (λ p. p.own) l.fn.others.items);
  holds_first : Holds l.initial.all.own l.all.own;
  holds : (longer : _) → Holds l.all.own longer → All (λ p. Holds p.own longer) (into_iter_items l.other-iterator) → All (λ p. Holds p.own longer) l.fn.others.items;
  kept : (keep : _) (ys : _) → KeptOf keep (l.initial.all.own ∷ map (λ p. p.own) l.fn.others.items) ys → KeptOf keep (l.all.own ∷ map (λ p. p.own) (into_iter_items l.other-iterator)) ys;
}
