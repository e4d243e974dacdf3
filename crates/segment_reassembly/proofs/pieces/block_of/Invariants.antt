-- The bits of the pieces so far, which are all below the next.
use Rattle.std.proofs.Common.{◌≡◌, ◌+◌, ◌<◌, ◌^◌, drop}
use Rattle.layer_states.specs.Reassembly.{block_from}
use Rattle.segment_reassembly.proofs.pieces.block_of.Given as goal

abbrev pub invariant-loop-i : goal.invariant-loop-i
invariant-loop-i l =
    record {
      sum : l.block + block_from l.i (drop l.i l.places) ≡ block_from 0 l.places;
      bound : l.block < 2 ^ l.i;
    }
