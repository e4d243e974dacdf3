-- Records that change what the keys of a node are derived from.
use Rattle.std.specs.Prelude.{◌≡◌, ◌==◌, ◌||◌, fold, Bool, true, false, List}
use Rattle.event_plans.specs.Memory.{NodeTablesView}
use Rattle.mesh_reading.specs.Held.{held_in}
use Rattle.node_records.specs.Tables.{config_in}
use Rattle.node_records.specs.declared.persist.Persist.{Persist}
use Rattle.record_types.specs.declared.records.StoreRecord.{StoreRecord}
use Rattle.record_types.specs.declared.records.StoreRecord.TheVariants as R
use Rattle.store_definitions.specs.Config.{Config, changed}

-- A record of the identity, of a network or application key, or of a label. One of a subscription where it takes all subscriptions of its
-- model away, the labels among them: op 3 and 4.
abbrev pub changes_keys : StoreRecord → Bool
changes_keys (R.Identity unicast elements dev_key) = true
changes_keys (R.NetKey op index key) = true
changes_keys (R.AppKey op net index key) = true
changes_keys (R.Label op element model label) = true
changes_keys (R.Subscribe op element model address) = op == 3 || op == 4
changes_keys _ = false

-- before these records the tables had the keys that the store said, and its value says these records now
pub record HadKeys (t : NodeTablesView) (p : Persist) (records : List StoreRecord) : Type 0 where
  pub before : Config
  pub keys : t.hearing.keys ≡ held_in before
  pub now : config_in p ≡ fold changed before records
