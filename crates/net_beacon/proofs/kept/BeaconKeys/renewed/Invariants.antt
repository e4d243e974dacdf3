-- The keys of the rows before this one are kept.
use Rattle.std.proofs.Common.{◌≡◌, ◌*◌, ◌≤◌, take}
use Rattle.arrayvec.specs.ArrayVec.{array_vec_len}
use Rattle.net_beacon.specs.Kept.{values_of}
use Rattle.net_beacon.proofs.kept.BeaconKeys.renewed.Given as goal

abbrev pub invariant-loop-row : goal.invariant-loop-row
invariant-loop-row l = record {
  keys : l.kept.items ≡ values_of (take l.row-index l.rows);
  few : array_vec_len l.kept ≤ 2 * l.row-index;
}
