-- When two lists of records say the same.
use Rattle.std.specs.Prelude.{◌≡◌, ℕ, List}
use Rattle.record_types.specs.declared.records.StoreRecord.{StoreRecord}
use Rattle.store_definitions.specs.Config.{config_of}
use Rattle.store_definitions.specs.Entries.{entry_of}

-- they say the same of the node and have the same replay list
pub record IsAlike (a b : List StoreRecord) : Type 0 where
  pub config : config_of a ≡ config_of b
  pub entries : (src : ℕ) → entry_of a src ≡ entry_of b src
