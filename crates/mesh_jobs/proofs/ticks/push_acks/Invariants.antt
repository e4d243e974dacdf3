-- The acknowledgments so far stand behind the jobs that were there.
use Rattle.std.proofs.Common.{◌≡◌, ◌+◌, ◌≤◌, ◌++◌, length, take}
use Rattle.std.specs.List.{flat_map}
use Rattle.node_layers.specs.Reassembly.{due_jobs}
use Rattle.node_records.specs.Tables.{config_in}
use Rattle.mesh_jobs.proofs.ticks.push_acks.Given as goal

abbrev pub invariant-loop-a : goal.invariant-loop-a
invariant-loop-a l =
    record {
      acks : l.jobs ≡ l.fn.jobs ++ flat_map (due_jobs (config_in l.p)) (take l.a-index l.a-items);
      length : length l.jobs ≤ length l.fn.jobs + l.a-index;
    }
