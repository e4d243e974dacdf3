-- The segments of the messages so far, at most all of each.
use Rattle.std.proofs.Common.{◌≡◌, ◌*◌, ◌≤◌, length, take}
use Rattle.node_limits.specs.declared.TheConstants.{SEGMENTS}
use Rattle.layer_states.specs.Sending.{all_due}
use Rattle.segment_sender.proofs.rows.all_due.Given as goal

abbrev pub invariant-loop-s : goal.invariant-loop-s
invariant-loop-s l =
    record {
      due : l.list ≡ all_due l.now (take l.s-index l.rows);
      few : length l.list ≤ SEGMENTS * l.s-index;
    }
