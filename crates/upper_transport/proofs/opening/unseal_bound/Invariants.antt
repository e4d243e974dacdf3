-- The keys tried so far open nothing, and are as many as the place says.
use Rattle.std.proofs.Common.{◌≡◌, ◌≤◌, length, take}
use Rattle.kept_keys.specs.Bound.{fitting_keys}
use Rattle.layer_definitions.specs.Upper.{IsUnopened}
use Rattle.upper_transport.proofs.opening.unseal_bound.Given as goal

abbrev pub invariant-loop-key : goal.invariant-loop-key
invariant-loop-key l = record {
  place : l.at ≡ length (fitting_keys l.net l.aid (take l.key-index l.keys));
  few : l.at ≤ l.key-index;
  unopened : IsUnopened (fitting_keys l.net l.aid (take l.key-index l.keys)) l.f l.upper;
}
