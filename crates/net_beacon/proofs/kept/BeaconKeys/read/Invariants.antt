-- The answer for the rows before this one.
use Rattle.std.proofs.Common.{take}
use Rattle.layer_definitions.specs.KeyRefresh.{beacon_keys, net_index}
use Rattle.layer_definitions.specs.Order.{by_index}
use Rattle.net_beacon.specs.Reading.{IsAnswer}
use Rattle.net_beacon.proofs.kept.BeaconKeys.read.Given as goal

abbrev pub invariant-loop-row : goal.invariant-loop-row
invariant-loop-row l = IsAnswer (beacon_keys (by_index net_index (take l.row-index l.rows))) l.bytes l.answer
