-- One row more, and the room for it.
use Rattle.std.proofs.Common.{◌≡◌, ap, arith, length}
use Rattle.std.specs.Prelude.{◌==◌}
use Rattle.config_server.proofs.Indexes.{few_passed, next_passed}
use Rattle.config_server.proofs.keys.app_indexes.Goals as goal

pub add_index-requires : goal.add_index-requires
add_index-requires c =
    let listed = ap length c.loop-row.invariant.0 in
    let few = few_passed (λ r. r.net == c.args.net) c.as_slice-row-items.result.now c.loop-row.row-index in
    omega (arith, listed, few, c.loop-row-test.true, c.as_slice-row-items.ensures.length)

pub loop-row-preserved : goal.loop-row-preserved
loop-row-preserved c = (
  next_passed (λ r. r.net == c.args.net) c.as_slice-row-items.result.now c.loop-row.row-index _ c.loop-row.invariant.0 c.add_index.ensures
      c.loop-row-test.true,
  c.as_slice-row-items.ensures.value,
)

pub returns-clause-few : goal.returns-clause-few
returns-clause-few c =
    let listed = ap length c.loop-row.invariant.0 in
    let few = few_passed (λ r. r.net == c.args.net) c.as_slice-row-items.result.now c.loop-row.row-index in
    omega (arith, listed, few, c.loop-row.auto.row-index-end, c.as_slice-row-items.ensures.length)
