use Rattle.std.proofs.Common.{◌<◌, length, arith}
use Rattle.store_definitions.specs.Config.{updated_app}
use Rattle.node_records.proofs.Changes.{changed_more}
use Rattle.node_records.proofs.keys.update_apps.Goals as goal

pub loop-place-preserved : goal.loop-place-preserved
loop-place-preserved c =
    let below : c.loop-place.place < length c.args.apps.now = omega (arith, c.loop-place-test.true, c.len-place-end.ensures.value) in
    rw (c.set.ensures.value, c.app_updated-row.ensures) (changed_more (updated_app c.args.index c.args.key.now) c.args.apps.now c.as_slice.result.now c.loop-place.apps c.loop-place.place _ below c.loop-place.invariant c.as_slice.ensures.value)
