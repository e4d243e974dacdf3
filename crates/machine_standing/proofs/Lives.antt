-- Records with a refill more.
use Rattle.std.proofs.Common.{◌≡◌, ℕ, suc, zero, List, [], ◌∷◌, ◌++◌, refl}
use Rattle.record_types.specs.declared.records.StoreRecord.{StoreRecord}
use Rattle.store_definitions.specs.Config.{config_of}
use Rattle.store_definitions.specs.Numbers.{fill_of, filled}

pub filled_more : (n : ℕ) (records : List StoreRecord) → filled (suc n) records ≡ filled n records ++ fill_of (config_of (filled n records)) ∷ []
filled_more zero records = refl
filled_more (suc n) records = filled_more n (records ++ fill_of (config_of records) ∷ [])
