-- What is left to be joined and what was joined stand for all bearers together.
use Rattle.std.proofs.Common.{◌≡◌, ◌+◌, ◌++◌, false, ◌∷◌, length, map}
use Rattle.std.specs.List.{All, flat_map, sum_by}
use Rattle.std.specs.Vec.Iter.{into_iter_items, into_iter_len}
use Rattle.turn_lock.specs.Entries.{Holds, IsPrefix, KeptOf}
use Rattle.turn_lock.specs.Views.{IsPassOf}
use Rattle.node_bearer.specs.Did.{IsRider}
use Rattle.node_phase.specs.Worked.{done_of, drawn_by, looks_by, own_of, parts_by}
use Rattle.node_phase.proofs.bearers.join_all.Given as goal

abbrev pub invariant-loop-bearer : goal.invariant-loop-bearer
invariant-loop-bearer g l = record {
  can_next : (goal.iterator-loop-bearer g).can_next l.bearer-iterator;
  is_finite : (goal.iterator-loop-bearer g).is_finite l.bearer-iterator;
  len : into_iter_len l.bearer-iterator ≡ length (into_iter_items l.bearer-iterator);
  which : l.drawer.which ≡ l.initial.drawer.which;
  pass : IsPassOf l.shared.turn.now l.pass × (l.pass.inside ≡ false);
  rest : All (IsRider 1 l.shared.numbers.now l.shared.turn.now) (into_iter_items l.bearer-iterator);
  parts : l.pass.parts + length (into_iter_items l.bearer-iterator) ≡ l.initial.pass.parts + length l.fn.bearers.items;
  drawn : l.drawer.drawn ++ flat_map drawn_by (into_iter_items l.bearer-iterator) ≡ l.initial.drawer.drawn ++ flat_map drawn_by l.fn.bearers.items;
  looks : l.drawer.looks ++ flat_map looks_by (into_iter_items l.bearer-iterator) ≡ l.initial.drawer.looks ++ flat_map looks_by l.fn.bearers.items;
  noted : l.drawer.noted ++ flat_map (λ b. b.drawer.noted) (into_iter_items l.bearer-iterator) ≡ l.initial.drawer.noted ++ flat_map (λ b. b.drawer.noted) l.fn.bearers.items;
  free : l.initial.drawer.owes ≡ 0 → All (λ b. b.drawer.owes ≡ 0) l.fn.bearers.items → (l.drawer.owes ≡ 0) × All (λ b. b.drawer.owes ≡ 0) (into_iter_items l.bearer-iterator);
  shares : l.drawer.parts + sum_by parts_by (into_iter_items l.bearer-iterator) ≡ l.initial.drawer.parts + sum_by parts_by l.fn.bearers.items;
  kept : (keep : _) (ys : _) → KeptOf keep (l.initial.pass.own ∷ map own_of l.fn.bearers.items) ys → KeptOf keep (l.pass.own ∷ map own_of (into_iter_items l.bearer-iterator)) ys;
  seen : (longer : _) → IsPrefix l.pass.seen longer → All (λ b. IsPrefix b.pass.seen longer) (into_iter_items l.bearer-iterator) → All (λ b. IsPrefix b.pass.seen longer) l.fn.bearers.items;
  holds : (longer : _) → Holds l.pass.own longer → All (λ b. Holds b.pass.own longer) (into_iter_items l.bearer-iterator) → All (λ b. Holds b.pass.own longer) l.fn.bearers.items;
  dones : l.dones.items ++ map done_of (into_iter_items l.bearer-iterator) ≡ map done_of l.fn.bearers.items;
}
