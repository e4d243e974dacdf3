-- The keys of the rows before this one are kept.
use Rattle.std.proofs.Common.{◌≡◌, ◌*◌, ◌≤◌, take}
use Rattle.arrayvec.specs.ArrayVec.{array_vec_len}
use Rattle.layer_definitions.specs.KeyRefresh.{heard_keys}
use Rattle.net_keys.proofs.held.keep.Given as goal

abbrev pub invariant-loop-row : goal.invariant-loop-row
invariant-loop-row l = record {
  keys : l.heard.items ≡ heard_keys (take l.row-index l.rows);
  few : array_vec_len l.heard ≤ 2 * l.row-index;
}
