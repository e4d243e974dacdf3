-- The octets of the pieces so far, at most 12 of each.
use Rattle.std.proofs.Common.{◌≡◌, ◌++◌, ◌*◌, ◌≤◌, drop, length}
use Rattle.layer_states.specs.Reassembly.{whole_of}
use Rattle.segment_reassembly.proofs.pieces.whole_of.Given as goal

abbrev pub invariant-loop-place : goal.invariant-loop-place
invariant-loop-place l =
    record {
      octets : l.out ++ whole_of (drop l.place-index l.places) ≡ whole_of l.places;
      most : length l.out ≤ 12 * l.place-index;
    }
