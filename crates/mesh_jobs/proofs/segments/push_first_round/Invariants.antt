-- The segments so far stand behind the jobs that were there.
use Rattle.std.proofs.Common.{◌≡◌, ◌+◌, ◌++◌, length, map}
use Rattle.std.specs.List.{range_with_len}
use Rattle.event_definitions.specs.Jobs.{first_round_job}
use Rattle.mesh_jobs.proofs.segments.push_first_round.Given as goal

abbrev pub invariant-loop-seg_o : goal.invariant-loop-seg_o
invariant-loop-seg_o l =
    record {
      segments : l.jobs ≡ l.fn.jobs ++ map (λ i. first_round_job l.m i l.material) (range_with_len 0 l.seg_o);
      length : length l.jobs ≡ length l.fn.jobs + l.seg_o;
    }
