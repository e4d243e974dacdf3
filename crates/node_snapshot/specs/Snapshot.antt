-- The list of records that says a value anew, and what it says.
use Rattle.std.specs.Prelude.{ℕ, List, [], ◌∷◌, ◌++◌, All}
use Rattle.std.specs.List.{flat_map}
use Rattle.layer_definitions.specs.Order.{by_index}
use Rattle.mesh_base.specs.declared.pair.Name.{Name}
use Rattle.record_types.specs.declared.records.StoreRecord.{StoreRecord}
use Rattle.record_types.specs.declared.records.StoreRecord.TheVariants as R
use Rattle.store_definitions.specs.Following.{AreInOrder}
use Rattle.store_definitions.specs.Ranges.{IsInRange}
use Rattle.node_records.specs.declared.persist.Persist.{Persist}
use Rattle.node_records.specs.Meaning.{IsMeaningOf}
use Rattle.node_records.specs.Places.{live_of}
use Rattle.node_snapshot.specs.Parts.{identity_records, net_records, app_records, bind_records, sub_records, label_records, feature_records, model_records, replay_records, reset_records, publish_records}

-- by what names are ordered
abbrev pub source_of : Name → ℕ
source_of name = name.src.0

-- the names of the replay list that aren't expired, by source
abbrev pub names_of : Persist → List Name
names_of p = by_index source_of (live_of p.iv.current p.replay)

-- Identity, where one is stored; Numbers; network keys and application keys by index; bindings, subscriptions and labels in the order held;
-- features that differ from provisioning's; kept values that aren't 0, by element and model; names that aren't expired, by source and two a
-- record; Reset, where it is stored; publications.
unfoldable pub snapshot_of : Persist → List StoreRecord
snapshot_of p =
    identity_records p.unicast p.elements p.dev_key
    ++ R.Numbers p.iv.current p.iv.progress p.mark p.iv.hours p.iv.since ∷ []
    ++ flat_map net_records p.nets
    ++ flat_map app_records p.apps
    ++ flat_map bind_records p.binds
    ++ flat_map sub_records p.subs
    ++ flat_map label_records p.labels
    ++ feature_records p.beacon p.ttl p.friend p.relay p.retransmit p.transmit
    ++ model_records p.onoffs p.levels
    ++ replay_records (names_of p)
    ++ reset_records p.reset
    ++ flat_map publish_records p.publications

-- The records are in range, each may follow those before it, and they say this value.
pub record IsSnapshot (records : List StoreRecord) (p : Persist) : Type 0 where
  pub ranges : All IsInRange records
  pub order : AreInOrder [] records
  pub meaning : IsMeaningOf records p
