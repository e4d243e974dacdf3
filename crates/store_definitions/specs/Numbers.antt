-- The records that raise the mark and that tell a new IV state.
use Rattle.std.specs.Prelude.{ℕ, ◌+◌, ◌*◌, ◌^◌, nat_lt, zero, suc, if◌then◌else◌, List, [], ◌∷◌, ◌++◌}
use Rattle.mesh_base.specs.IvState.{transmit_of}
use Rattle.mesh_base.specs.declared.iv_state.IvState.{IvState}
use Rattle.record_types.specs.declared.records.StoreRecord.{StoreRecord}
use Rattle.record_types.specs.declared.records.StoreRecord.TheVariants as R
use Rattle.store_definitions.specs.Config.{Config, config_of}

-- A refill reserves 256 numbers more, under the IV state as it is.
abbrev pub fill_of : Config → StoreRecord
fill_of c = R.Numbers c.iv.current c.iv.progress (c.mark + 256) c.iv.hours c.iv.since

-- the records with so many refills more
abbrev pub filled : ℕ → List StoreRecord → List StoreRecord
filled zero records = records
filled (suc n) records = filled n (records ++ fill_of (config_of records) ∷ [])

-- The record of a new IV state. Where the transmit IV Index rises, SEQ starts at 0 under it; else the mark stays.
abbrev pub moved : Config → IvState → StoreRecord
moved c s =
    R.Numbers s.current s.progress
    (if nat_lt (transmit_of c.iv) (transmit_of s) then transmit_of s * 2 ^ 25 else c.mark) s.hours s.since
