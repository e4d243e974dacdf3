-- The value that a list of records stands for.
use Rattle.std.specs.Prelude.{◌≡◌, ℕ, ◌≤◌, ⊤, List, All}
use Rattle.record_types.specs.declared.records.StoreRecord.{StoreRecord}
use Rattle.record_types.specs.declared.records.StoreRecord.TheVariants as R
use Rattle.store_definitions.specs.Config.{config_of}
use Rattle.store_definitions.specs.Entries.{entry_of}
use Rattle.store_definitions.specs.Ranges.{IsInRange}
use Rattle.node_records.specs.declared.persist.Persist.{Persist}
use Rattle.node_records.specs.Tables.{config_in, entry_in, IsApart}

-- A value is the meaning of a list of records: its fields and tables are what the records say, and every source has the entry that the
-- records give it.
pub record IsMeaningOf (records : List StoreRecord) (p : Persist) : Type 0 where
  pub config : config_in p ≡ config_of records
  pub entries : (src : ℕ) → entry_in p src ≡ entry_of records src
  pub apart : IsApart p.replay

-- Some records in range have this meaning. It holds of a new value, and `apply` keeps it.
pub record IsSaid (p : Persist) : Type 0 where
  pub records : List StoreRecord
  pub ranges : All IsInRange records
  pub meaning : IsMeaningOf records p

-- A Numbers record has a known IV Index that isn't below the one held: with a fall an expired entry would be one again.
abbrev pub DoesNotFall : Persist → StoreRecord → Type 0
DoesNotFall p (R.Numbers current progress mark hours since) = p.iv.current ≤ current
DoesNotFall p _ = ⊤
