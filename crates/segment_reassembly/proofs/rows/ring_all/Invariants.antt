-- The rows so far are rung, the rest are as they were.
use Rattle.std.proofs.Common.{◌≡◌, ◌++◌, drop, map, take}
use Rattle.layer_states.specs.Reassembly.{rung}
use Rattle.segment_reassembly.proofs.rows.ring_all.Given as goal

abbrev pub invariant-loop-a : goal.invariant-loop-a
invariant-loop-a l = l.rows ≡ map (rung l.now) (take l.a-index l.initial.rows) ++ drop l.a-index l.initial.rows
