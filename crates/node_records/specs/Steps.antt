-- What one record changes in a value, apart from the records before it.
use Rattle.std.specs.Prelude.{◌≡◌, ◌<◌, ◌^◌, ℕ, ⊤, List}
use Rattle.mesh_base.specs.declared.pair.Name.{Name}
use Rattle.record_types.specs.declared.records.StoreRecord.{StoreRecord}
use Rattle.record_types.specs.declared.records.StoreRecord.TheVariants as R
use Rattle.store_definitions.specs.Config.{changed}
use Rattle.store_definitions.specs.Entries.{kept_after, kept_with, unexpired}
use Rattle.node_records.specs.declared.persist.Persist.{Persist}
use Rattle.node_records.specs.Tables.{config_in, pair_of, IsApart}

-- The rows of the replay list after one name more: still one row a source, and every source has the entry that the name leaves it.
pub record KeepsName (current : ℕ) (old new : List Name) (name : Name) : Type 0 where
  pub apart : IsApart new
  pub entries : (src : ℕ)
      → unexpired current (pair_of new src) ≡ unexpired current (kept_with src (pair_of old src) name)

-- The same of a record.
pub record KeepsEntries (current : ℕ) (old new : List Name) (item : StoreRecord) : Type 0 where
  pub apart : IsApart new
  pub entries : (src : ℕ)
      → unexpired current (pair_of new src) ≡ unexpired current (kept_after src (pair_of old src) item)

-- a value after a record
pub record IsStep (old : Persist) (item : StoreRecord) (new : Persist) : Type 0 where
  pub config : config_in new ≡ changed (config_in old) item
  pub replay : IsApart old.replay → KeepsEntries old.iv.current old.replay new.replay item

-- A Default TTL that it sets has 7 bits (Mesh Profile 1.0.1, section 4.2.7).
abbrev pub IsShortTtl : StoreRecord → Type 0
IsShortTtl (R.Feature which value) = which ≡ 2 → value < 2 ^ 7
IsShortTtl item = ⊤

-- a record that changes a table
abbrev pub IsOfTable : StoreRecord → Type 0
IsOfTable (R.Replay first second) = ⊤
IsOfTable (R.NetKey op index key) = ⊤
IsOfTable (R.AppKey op net index key) = ⊤
IsOfTable (R.Bind op element model app) = ⊤
IsOfTable (R.Subscribe op element model address) = ⊤
IsOfTable (R.Label op element model label) = ⊤
IsOfTable (R.Publish row) = ⊤
IsOfTable _ = ⊥
