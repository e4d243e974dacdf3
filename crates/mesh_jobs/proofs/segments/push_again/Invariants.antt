-- The segments so far stand behind the jobs that were there.
use Rattle.std.proofs.Common.{◌≡◌, ◌+◌, ◌++◌, length, take}
use Rattle.mesh_jobs.specs.Segments.{segments_under}
use Rattle.mesh_jobs.proofs.segments.push_again.Given as goal

abbrev pub invariant-loop-seg_o : goal.invariant-loop-seg_o
invariant-loop-seg_o l =
    record {
      segments : l.jobs ≡ l.fn.jobs ++ segments_under l.material l.m (take l.seg_o-index l.round);
      length : length l.jobs ≡ length l.fn.jobs + l.seg_o-index;
    }
