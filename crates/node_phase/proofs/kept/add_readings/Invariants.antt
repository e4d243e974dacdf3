use Rattle.std.proofs.Common.{◌≤◌, ◌-◌, length, vec_capacity, vec_len}
use Rattle.node_phase.proofs.kept.add_readings.Given as goal

abbrev pub invariant-loop-readings : goal.invariant-loop-readings
invariant-loop-readings g l = record {
  more : length l.initial.readings.items ≤ length l.readings.items;
}

abbrev pub decreases-loop-readings : goal.decreases-loop-readings
decreases-loop-readings g l = vec_capacity l.readings - vec_len l.readings
