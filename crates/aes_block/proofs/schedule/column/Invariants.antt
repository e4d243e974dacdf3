-- The words below the place, and the one of the key, are in place.
use Rattle.std.proofs.Common.{◌≡◌, ◌∷◌, ◌+◌, length, map, take, slice_index}
use Rattle.aes_block.proofs.schedule.column.Given as goal

abbrev pub invariant-loop-i : goal.invariant-loop-i
invariant-loop-i l = record {
  placed : take (l.i + 1) l.words ≡ slice_index l.key l.place ∷ map (λ k. slice_index k l.place) (take l.i l.rest);
  count : length l.words ≡ 11;
}
