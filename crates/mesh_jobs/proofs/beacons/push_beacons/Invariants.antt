-- The beacons of the rows so far stand behind the jobs that were there.
use Rattle.std.proofs.Common.{◌≡◌, ◌+◌, ◌++◌, length, map, take}
use Rattle.layer_definitions.specs.KeyRefresh.{own_beacon}
use Rattle.mesh_base.specs.declared.keys.NetKeyRow.{NetKeyRow}
use Rattle.mesh_types.specs.declared.jobs.Job.TheVariants as J
use Rattle.mesh_jobs.proofs.beacons.push_beacons.Given as goal

abbrev pub invariant-loop-row : goal.invariant-loop-row
invariant-loop-row l =
    record {
      beacons : l.jobs ≡ l.fn.jobs ++ map (λ (r : NetKeyRow). J.Beacon (own_beacon l.p.iv r)) (take l.row-index l.row-items);
      length : length l.jobs ≡ length l.fn.jobs + l.row-index;
    }
