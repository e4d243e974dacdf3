-- The labels of the rows before this one.
use Rattle.std.proofs.Common.{◌≡◌, take}
use Rattle.mesh_reading.specs.Rows.{labels_of}
use Rattle.mesh_reading.proofs.keys.labels_renewed.Given as goal

abbrev pub invariant-loop-row : goal.invariant-loop-row
invariant-loop-row l = l.labels ≡ labels_of (take l.row-index l.rows)
