-- What records say with one more at their end.
use Rattle.std.proofs.Common.{◌≡◌, ℕ, List, [], ◌∷◌, ◌++◌}
use Rattle.std.specs.Prelude.{None}
use Rattle.std.proofs.lemmas.List.Sums.{fold-append}
use Rattle.record_types.specs.declared.records.StoreRecord.{StoreRecord}
use Rattle.store_definitions.specs.Config.{changed, config_of, no_config}
use Rattle.store_definitions.specs.Entries.{kept_after, kept_of}

pub config_push : (records : List StoreRecord) (item : StoreRecord) → config_of (records ++ item ∷ []) ≡ changed (config_of records) item
config_push records item = fold-append changed no_config records (item ∷ [])

pub kept_push : (records : List StoreRecord) (item : StoreRecord) (src : ℕ) → kept_of (records ++ item ∷ []) src ≡ kept_after src (kept_of records src) item
kept_push records item src = fold-append (kept_after src) None records (item ∷ [])
