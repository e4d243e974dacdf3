-- The rounds so far stand behind the jobs that were there.
use Rattle.std.proofs.Common.{◌≡◌, ◌+◌, ◌*◌, ◌≤◌, ◌++◌, length, take}
use Rattle.std.specs.List.{flat_map}
use Rattle.node_layers.specs.Sending.{round_jobs}
use Rattle.node_records.specs.Tables.{config_in}
use Rattle.mesh_jobs.proofs.segments.push_rounds.Given as goal

abbrev pub invariant-loop-s : goal.invariant-loop-s
invariant-loop-s l =
    record {
      rounds : l.jobs ≡ l.fn.jobs ++ flat_map (round_jobs (config_in l.p) l.now) (take l.s-index l.rows);
      length : length l.jobs ≤ length l.fn.jobs + 32 * l.s-index;
    }
