-- The records that say a value anew, part by part.
use Rattle.std.specs.Prelude.{ℕ, ◌+◌, ◌*◌, ◌==◌, Bool, if◌then◌else◌, List, [], ◌∷◌, ◌++◌, Option, Some, None, replicate, slice_index}
use Rattle.std.specs.List.{flat_map, range_with_len}
use Rattle.node_limits.specs.declared.TheConstants.{ELEMENTS}
use Rattle.mesh_base.specs.declared.address.Address.{Address}
use Rattle.mesh_base.specs.declared.keys.NetKeyRow.{NetKeyRow}
use Rattle.mesh_base.specs.declared.keys.AppKeyRow.{AppKeyRow}
use Rattle.mesh_base.specs.declared.pair.Name.{Name}
use Rattle.record_types.specs.declared.records.PublishRow.{PublishRow}
use Rattle.record_types.specs.declared.records.StoreRecord.{StoreRecord}
use Rattle.record_types.specs.declared.records.StoreRecord.TheVariants as R

-- an Identity, where one is stored
abbrev pub identity_records : Address → ℕ → List ℕ → List StoreRecord
identity_records unicast elements dev_key = if elements == 0 then [] else R.Identity unicast elements dev_key ∷ []

-- of a network key add, then update where a next key is held, then phase 2 where the phase is 2
abbrev pub next_net : ℕ → Option (List ℕ) → List StoreRecord
next_net index None = []
next_net index (Some key) = R.NetKey 2 index key ∷ []

abbrev pub second_phase : ℕ → ℕ → List StoreRecord
second_phase index phase = if phase == 2 then R.NetKey 3 index (replicate 16 0) ∷ [] else []

abbrev pub net_records : NetKeyRow → List StoreRecord
net_records r = R.NetKey 1 r.index r.key ∷ (next_net r.index r.next ++ second_phase r.index r.phase)

-- of an application key add, then update where a next value is held
abbrev pub next_app : ℕ → ℕ → Option (List ℕ) → List StoreRecord
next_app net index None = []
next_app net index (Some key) = R.AppKey 2 net index key ∷ []

abbrev pub app_records : AppKeyRow → List StoreRecord
app_records r = R.AppKey 1 r.net r.index r.key ∷ next_app r.net r.index r.next

abbrev pub bind_records : Address × ℕ × ℕ → List StoreRecord
bind_records b = R.Bind 1 b.0 b.1 b.2 ∷ []

abbrev pub sub_records : Address × ℕ × Address → List StoreRecord
sub_records s = R.Subscribe 1 s.0 s.1 s.2 ∷ []

abbrev pub label_records : Address × ℕ × List ℕ → List StoreRecord
label_records l = R.Label 1 l.0 l.1 l.2 ∷ []

-- a feature, where its value differs from the first one
abbrev pub feature_record : ℕ → ℕ → ℕ → List StoreRecord
feature_record which first value = if value == first then [] else R.Feature which value ∷ []

abbrev pub feature_records : ℕ → ℕ → ℕ → ℕ → ℕ → ℕ → List StoreRecord
feature_records beacon ttl friend relay retransmit transmit =
    feature_record 1 0 beacon ++ feature_record 2 7 ttl ++ feature_record 3 1 friend
    ++ feature_record 4 256 (relay * 256 + retransmit)
    ++ feature_record 5 0 transmit

-- the value that a model keeps, where it isn't 0
abbrev pub model_record : ℕ → ℕ → ℕ → List StoreRecord
model_record model element value = if value == 0 then [] else R.Model element model value ∷ []

-- of the element at a place, by model
abbrev pub element_records : List ℕ → List ℕ → ℕ → List StoreRecord
element_records onoffs levels element =
    model_record 0x1000 element (slice_index onoffs element) ++ model_record 0x1002 element (slice_index levels element)

abbrev pub model_records : List ℕ → List ℕ → List StoreRecord
model_records onoffs levels = flat_map (element_records onoffs levels) (range_with_len 0 ELEMENTS)

-- names two a record, in their order
abbrev pub replay_records : List Name → List StoreRecord
replay_records [] = []
replay_records (first ∷ []) = R.Replay first None ∷ []
replay_records (first ∷ second ∷ names) = R.Replay first (Some second) ∷ replay_records names

-- a Node Reset, where there was one
abbrev pub reset_records : Bool → List StoreRecord
reset_records reset = if reset then R.Reset ∷ [] else []

abbrev pub publish_records : PublishRow → List StoreRecord
publish_records row = R.Publish row ∷ []
