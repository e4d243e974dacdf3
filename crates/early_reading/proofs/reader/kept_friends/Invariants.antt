-- The keys before this one are kept.
use Rattle.std.proofs.Common.{◌≡◌, take}
use Rattle.early_reading.proofs.reader.kept_friends.Given as goal

abbrev pub invariant-loop-key : goal.invariant-loop-key
invariant-loop-key l = l.kept.items ≡ take l.key-index l.keys
