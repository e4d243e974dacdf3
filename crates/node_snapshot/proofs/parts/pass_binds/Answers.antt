use Rattle.std.proofs.Common.{sym}
use Rattle.record_types.specs.declared.records.StoreRecord.TheVariants as R
use Rattle.node_snapshot.proofs.Passing.{row_behind, row_here}
use Rattle.node_snapshot.proofs.parts.pass_binds.Goals as goal

pub returns-then-place-rows : goal.returns-then-place-rows
returns-then-place-rows c = record { value = sym (row_behind (λ b. R.Bind 1 b.0 b.1 b.2) c.args.rows.now c.args.place c.if-place-rows.true) }

pub returns : goal.returns
returns c = record { value = sym (row_here (λ b. R.Bind 1 b.0 b.1 b.2) c.args.rows.now c.args.place _ c.if-place-rows.false) }
