-- The values of the rows before this one are kept.
use Rattle.std.proofs.Common.{◌≡◌, ◌*◌, ◌≤◌, take}
use Rattle.arrayvec.specs.ArrayVec.{array_vec_len}
use Rattle.kept_keys.specs.Bound.{bound_keys}
use Rattle.app_keys.proofs.held.keep.Given as goal

abbrev pub invariant-loop-row : goal.invariant-loop-row
invariant-loop-row l = record {
  values : l.bound.items ≡ bound_keys (take l.row-index l.rows);
  few : array_vec_len l.bound ≤ 2 * l.row-index;
}
