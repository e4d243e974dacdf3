-- The acknowledgments of the rows so far.
use Rattle.std.proofs.Common.{◌≡◌, ◌≤◌, length, take}
use Rattle.std.specs.List.{filter_map}
use Rattle.layer_states.specs.Reassembly.{due_ack}
use Rattle.segment_reassembly.proofs.rows.due_acks.Given as goal

abbrev pub invariant-loop-a : goal.invariant-loop-a
invariant-loop-a l =
    record {
      acks : l.list ≡ filter_map (due_ack l.now) (take l.a-index l.rows);
      few : length l.list ≤ l.a-index;
    }
