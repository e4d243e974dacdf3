-- The phases of the rows so far.
use Rattle.std.proofs.Common.{◌≡◌, length, take}
use Rattle.mesh_jobs.specs.Phases.{phases_of}
use Rattle.mesh_jobs.proofs.refresh.held_phases.Given as goal

abbrev pub invariant-loop-row : goal.invariant-loop-row
invariant-loop-row l =
    record {
      phases : l.list ≡ phases_of (take l.row-index l.row-items);
      length : length l.list ≡ l.row-index;
    }
