use Rattle.std.proofs.Common.{sym, subst}
use Rattle.layer_definitions.specs.KeyRefresh.{beacon_keys, net_index}
use Rattle.layer_definitions.specs.Order.{put_rows}
use Rattle.net_beacon.specs.Reading.{IsAnswer}
use Rattle.layer_definitions.proofs.OrderLaws.{is_by_index, next_row}
use Rattle.net_beacon.proofs.kept.BeaconKeys.read.Goals as goal

pub loop-row-init : goal.loop-row-init
unfolding put_rows
loop-row-init c = λ k by flags iv e r. absurd (cc)

pub loop-row-preserved : goal.loop-row-preserved
loop-row-preserved c =
    let next = c.with_row-answer.ensures _ (is_by_index net_index _) c.loop-row.invariant in
    subst (λ s. IsAnswer (beacon_keys s) c.args.bytes.now c.with_row-answer.result) (sym (next_row net_index c.args.rows.now c.loop-row.row-index _ c.loop-row-test.true)) next
