-- The credentials before these.
use Rattle.std.proofs.Common.{◌≡◌, take}
use Rattle.early_reading.proofs.view.credentials.Given as goal

abbrev pub invariant-loop-key : goal.invariant-loop-key
invariant-loop-key l = l.list ≡ take l.key-index l.keys
