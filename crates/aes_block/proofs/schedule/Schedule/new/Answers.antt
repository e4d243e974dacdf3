use Rattle.aes_block.proofs.Keys.{by_columns}
use Rattle.aes_block.proofs.schedule.Schedule.new.Goals as goal

pub invariant_of-result : goal.invariant_of-result
invariant_of-result c = λ i h.
    by_columns c.columns_of-first.result c.keys_after-rest.result _ _ _ _
    c.column.ensures c.column-2.ensures c.column-3.ensures c.column-4.ensures c.keys_after-rest.ensures i h
