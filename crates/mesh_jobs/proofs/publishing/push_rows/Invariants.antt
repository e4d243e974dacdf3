-- The jobs of the rows so far stand behind the jobs that were there.
use Rattle.std.proofs.Common.{◌≡◌, ◌+◌, ◌≤◌, ◌++◌, length, take}
use Rattle.std.specs.List.{flat_map}
use Rattle.mesh_jobs.specs.Publishing.{sent_row}
use Rattle.node_records.specs.Tables.{config_in}
use Rattle.mesh_jobs.proofs.publishing.push_rows.Given as goal

abbrev pub invariant-loop-due : goal.invariant-loop-due
invariant-loop-due l =
    record {
      rows : l.jobs ≡ l.fn.jobs ++ flat_map (sent_row (config_in l.p)) (take l.due-index l.rows);
      length : length l.jobs ≤ length l.fn.jobs + l.due-index;
    }
