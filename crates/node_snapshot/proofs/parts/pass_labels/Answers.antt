use Rattle.std.proofs.Common.{sym}
use Rattle.record_types.specs.declared.records.StoreRecord.TheVariants as R
use Rattle.node_snapshot.proofs.Passing.{row_behind, row_here}
use Rattle.node_snapshot.proofs.parts.pass_labels.Goals as goal

pub returns-then-place-rows : goal.returns-then-place-rows
returns-then-place-rows c = record { value = sym (row_behind (λ l. R.Label 1 l.0 l.1 l.2) c.args.rows.now c.args.place c.if-place-rows.true) }

pub returns : goal.returns
returns c = record { value = sym (row_here (λ l. R.Label 1 l.0 l.1 l.2) c.args.rows.now c.args.place _ c.if-place-rows.false) }
