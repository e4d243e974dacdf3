use Rattle.node_records.proofs.Rows.{none_from}
use Rattle.node_records.proofs.replay.apply_name.Goals as goal

pub add_row-requires-clause-none : goal.add_row-requires-clause-none
add_row-requires-clause-none c = none_from c.args.rows.now c.args.name.now.src.0 (rw c.as_slice.ensures.value at c.in-None.ensures.none)
