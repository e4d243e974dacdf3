-- When a table has no place for what a record adds.
use Rattle.std.specs.Prelude.{◌≡◌, ◌⊎◌, ℕ, ◌<◌, ⊤, List, [], ◌∷◌, ◌++◌, length, None, IsSomeAnd}
use Rattle.node_limits.specs.declared.TheConstants.{NETWORK_KEYS, APPLICATION_KEYS, BINDINGS, GROUP_SUBSCRIPTIONS, LABEL_SUBSCRIPTIONS, PUBLICATIONS, REPLAY_ENTRIES}
use Rattle.layer_definitions.specs.Order.{put_by}
use Rattle.record_types.specs.declared.records.StoreRecord.{StoreRecord}
use Rattle.record_types.specs.declared.records.StoreRecord.TheVariants as R
use Rattle.store_definitions.specs.Config.{nets_after, apps_after, binds_after, subs_after, labels_after, publication_index}
use Rattle.store_definitions.specs.Entries.{others_held}
use Rattle.store_definitions.specs.Following.{HasNoPlace}
use Rattle.node_records.specs.declared.persist.Persist.{Persist}
use Rattle.node_records.specs.Places.{live_of, live_with, LacksPlace}

-- The table that would grow is full: with the record's change it would have more rows than its size. Of a subscription that takes the
-- place of all of its model these are counted after they are gone. Of two names the second is asked after the first.
abbrev pub IsFull : Persist → StoreRecord → Type 0
IsFull p (R.NetKey op index key) = NETWORK_KEYS < length (nets_after op index key p.nets)
IsFull p (R.AppKey op net index key) = APPLICATION_KEYS < length (apps_after op net index key p.apps)
IsFull p (R.Bind op element model app) = BINDINGS < length (binds_after op element model app p.binds)
IsFull p (R.Subscribe op element model address) = GROUP_SUBSCRIPTIONS < length (subs_after op element model address p.subs)
IsFull p (R.Label op element model label) = LABEL_SUBSCRIPTIONS < length (labels_after op element model label p.labels)
IsFull p (R.Publish row) = PUBLICATIONS < length (put_by publication_index row p.publications)
IsFull p (R.Replay first second) =
    LacksPlace (live_of p.iv.current p.replay) first
    ⊎ IsSomeAnd second (LacksPlace (live_with p.iv.current (live_of p.iv.current p.replay) first))
IsFull p _ = ⊥

-- how many rows a table has that has no place for what a record adds; of the replay list these are rows that aren't expired
abbrev pub held_for : Persist → StoreRecord → ℕ
held_for p (R.NetKey op index key) = length p.nets
held_for p (R.AppKey op net index key) = length p.apps
held_for p (R.Bind op element model app) = length p.binds
held_for p (R.Subscribe op element model address) = length p.subs
held_for p (R.Label op element model label) = length p.labels
held_for p (R.Publish row) = length p.publications
held_for p (R.Replay first second) = REPLAY_ENTRIES
held_for p _ = 0

-- so many other sources have an entry where a name of a Replay record has no place
abbrev pub IsHeldByOthers : List StoreRecord → StoreRecord → ℕ → Type 0
IsHeldByOthers records (R.Replay first second) held =
    (HasNoPlace records first × (held ≡ others_held records first.src.0))
    ⊎ IsSomeAnd second (λ name. HasNoPlace (records ++ R.Replay first None ∷ []) name
    × (held ≡ others_held (records ++ R.Replay first None ∷ []) name.src.0))
IsHeldByOthers records _ held = ⊤
