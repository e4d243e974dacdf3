-- The names of the rows so far.
use Rattle.std.proofs.Common.{◌≡◌, length, take}
use Rattle.node_limits.specs.declared.TheConstants.{MESSAGES_IN_PROGRESS}
use Rattle.layer_states.specs.Reassembly.{names_of}
use Rattle.segment_reassembly.proofs.rows.names_of.Given as goal

abbrev pub invariant-loop-i : goal.invariant-loop-i
invariant-loop-i l =
    record {
      names : take l.i l.names ≡ names_of (take l.i l.rows);
      length : length l.names ≡ MESSAGES_IN_PROGRESS;
    }
