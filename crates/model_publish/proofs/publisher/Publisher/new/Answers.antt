-- There are no more rows than were given.
use Rattle.std.proofs.Common.{arith, ap, length}
use Rattle.model_states.specs.Publication.{row_index}
use Rattle.model_publish.proofs.Logs.{length-put, length-rows_put}
use Rattle.model_publish.proofs.publisher.Publisher.new.Goals as goal

pub put-requires : goal.put-requires
put-requires c =
    let more = length-put row_index c.accepted_at.result c.loop-row.held in
    let held = ap length c.loop-row.invariant in
    let few = length-rows_put c.args.rows.now c.loop-row.row-index in
    omega (arith, more, held, few, c.loop-row-test.true, c.requires)
