-- Which record may come after others: the limits of a node's store, and the known IV Index, which never falls.
use Rattle.std.specs.Prelude.{◌≡◌, ◌⊎◌, ℕ, ◌+◌, ◌<◌, ◌≤◌, ⊤, false, List, [], ◌∷◌, ◌++◌, length, None, IsSomeAnd}
use Rattle.node_limits.specs.declared.TheConstants.{NETWORK_KEYS, APPLICATION_KEYS, BINDINGS, GROUP_SUBSCRIPTIONS, LABEL_SUBSCRIPTIONS, PUBLICATIONS}
use Rattle.mesh_base.specs.declared.pair.Name.{Name}
use Rattle.record_types.specs.declared.records.StoreRecord.{StoreRecord}
use Rattle.record_types.specs.declared.records.StoreRecord.TheVariants as R
use Rattle.layer_definitions.specs.Order.{put_by}
use Rattle.store_definitions.specs.Config.{config_of, nets_after, apps_after, binds_after, subs_after, labels_after, publication_index}
use Rattle.store_definitions.specs.Entries.{entry_of, has_room}

-- a name has no place: its source has no entry, and so many others have one as the replay list has entries
abbrev pub HasNoPlace : List StoreRecord → Name → Type 0
HasNoPlace records name = (entry_of records name.src.0 ≡ None) × (has_room records name.src.0 ≡ false)

-- A record passes a limit: with its change there would be more network keys, application keys, bindings, subscriptions to groups or to
-- labels, or publications than the node holds, or one of its names, in their order, has no place. Of a subscription that takes the place
-- of all of its model these are counted after they are gone.
abbrev pub PassesLimit : List StoreRecord → StoreRecord → Type 0
PassesLimit records (R.NetKey op index key) = NETWORK_KEYS < length (nets_after op index key (config_of records).nets)
PassesLimit records (R.AppKey op net index key) = APPLICATION_KEYS < length (apps_after op net index key (config_of records).apps)
PassesLimit records (R.Bind op element model app) =
    BINDINGS < length (binds_after op element model app (config_of records).binds)
PassesLimit records (R.Subscribe op element model address) =
    GROUP_SUBSCRIPTIONS < length (subs_after op element model address (config_of records).subs)
PassesLimit records (R.Label op element model label) =
    LABEL_SUBSCRIPTIONS < length (labels_after op element model label (config_of records).labels)
PassesLimit records (R.Publish row) =
    PUBLICATIONS < length (put_by publication_index row (config_of records).publications)
PassesLimit records (R.Replay first second) =
    HasNoPlace records first ⊎ IsSomeAnd second (HasNoPlace (records ++ R.Replay first None ∷ []))
PassesLimit records _ = ⊥

-- `current` of a Numbers record isn't below that of the Numbers record before it
abbrev pub DoesNotLower : List StoreRecord → StoreRecord → Type 0
DoesNotLower records (R.Numbers current progress mark hours since) = (config_of records).iv.current ≤ current
DoesNotLower records _ = ⊤

-- A record may follow these: it passes no limit, and doesn't lower the known IV Index.
pub record Follows (records : List StoreRecord) (item : StoreRecord) : Type 0 where
  pub within : PassesLimit records item → ⊥
  pub rises : DoesNotLower records item

-- each record may follow those before it
abbrev pub AreInOrder : List StoreRecord → List StoreRecord → Type 0
AreInOrder before [] = ⊤
AreInOrder before (item ∷ items) = Follows before item × AreInOrder (before ++ item ∷ []) items
