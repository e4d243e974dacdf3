use Rattle.std.proofs.Common.{arith}
use Rattle.net_beacon.proofs.Values.{values_more}
use Rattle.net_beacon.proofs.kept.BeaconKeys.renewed.Goals as goal

pub loop-row-preserved : goal.loop-row-preserved
loop-row-preserved c = record {
  keys = rw (c.add_keys.ensures.value, c.loop-row.invariant.keys) (values_more c.args.rows.now c.loop-row.row-index _ c.loop-row-test.true);
  few = omega (arith, c.add_keys.ensures.length, c.loop-row.invariant.few);
}
