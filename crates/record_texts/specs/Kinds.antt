-- The records that are changes of a table by an op.
use Rattle.std.specs.Prelude.{⊤}
use Rattle.record_types.specs.declared.records.StoreRecord.{StoreRecord}
use Rattle.record_types.specs.declared.records.StoreRecord.TheVariants as R

abbrev pub HasOp : StoreRecord → Type 0
HasOp (R.NetKey op index key) = ⊤
HasOp (R.AppKey op net index key) = ⊤
HasOp (R.Bind op element model app) = ⊤
HasOp (R.Subscribe op element model address) = ⊤
HasOp (R.Label op element model label) = ⊤
HasOp _ = ⊥
