-- The octets of the keys of the rows before this one.
use Rattle.std.proofs.Common.{◌≡◌, ◌*◌, ◌≤◌, take}
use Rattle.arrayvec.specs.ArrayVec.{array_vec_len}
use Rattle.net_keys.specs.Held.{octets_of}
use Rattle.net_keys.proofs.held.octets_of.Given as goal

abbrev pub invariant-loop-row : goal.invariant-loop-row
invariant-loop-row l = record {
  keys : l.octets.items ≡ octets_of (take l.row-index l.rows);
  few : array_vec_len l.octets ≤ 2 * l.row-index;
}
