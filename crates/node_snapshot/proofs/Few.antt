-- A snapshot has no more records than there is room for.
use Rattle.std.proofs.Common.{◌≡◌, ℕ, zero, suc, ◌+◌, ◌*◌, ◌≤◌, Bool, true, false, not, List, [], ◌∷◌, ◌++◌, length, Option, Some, None, length-append, replicate, arith}
use Rattle.std.specs.Prelude.{◌==◌, if◌then◌else◌, slice_index}
use Rattle.std.specs.List.{flat_map, range_with_len}
use Rattle.node_limits.specs.declared.TheConstants.{APPLICATION_KEYS, BINDINGS, ELEMENTS, FEATURES, GROUP_SUBSCRIPTIONS, LABEL_SUBSCRIPTIONS, NETWORK_KEYS, PUBLICATIONS, RECORDS_OF_APPLICATION_KEY, RECORDS_OF_NETWORK_KEY, REPLAY_ENTRIES, REPLAY_RECORDS, SERVERS, SNAPSHOT_RECORDS}
use Rattle.layer_definitions.proofs.OrderLaws.{length-by_index}
use Rattle.mesh_base.specs.Pairs.{is_expired}
use Rattle.mesh_base.specs.declared.keys.NetKeyRow.{NetKeyRow}
use Rattle.mesh_base.specs.declared.keys.AppKeyRow.{AppKeyRow}
use Rattle.mesh_base.specs.declared.pair.Name.{Name}
use Rattle.record_types.specs.declared.records.StoreRecord.{StoreRecord}
use Rattle.record_types.specs.declared.records.StoreRecord.TheVariants as R
use Rattle.node_records.specs.declared.persist.Persist.{Persist}
use Rattle.node_records.specs.Places.{live_of}
use Rattle.node_records.proofs.Changes.{filter_few}
use Rattle.node_snapshot.specs.Parts.{net_records, next_net, second_phase, app_records, next_app, bind_records, sub_records, label_records, feature_record, feature_records, model_record, element_records, replay_records, publish_records}
use Rattle.node_snapshot.specs.Sizes.{HasSizes}
use Rattle.node_snapshot.specs.Snapshot.{names_of, snapshot_of, source_of}
use Rattle.node_snapshot.proofs.Rests.{part1, part2, part3, part4, part5, part6, part7, part8, part9, part10, part11, part12, front1, front2, front3, front4, front5, front6, front7, front8, front9, front10, front11}

few_join : (xs ys : List StoreRecord) (m n : ℕ) → length xs ≤ m → length ys ≤ n → length (xs ++ ys) ≤ m + n
few_join xs ys m n few more = let all : length (xs ++ ys) ≡ length xs + length ys = length-append xs ys in omega (arith, all, few, more)

flat_few : {A : Type 0} (f : A → List StoreRecord) (c : ℕ) → ((x : A) → length (f x) ≤ c) → (rows : List A) (size : ℕ) → length rows ≤ size → length (flat_map f rows) ≤ c * size
flat_few f c h [] size le = omega arith
flat_few f c h (x ∷ rows) zero le = absurd (omega arith)
flat_few f c h (x ∷ rows) (suc size) le =
    let one : length (f x) ≤ c = h x in
    let rest : length (flat_map f rows) ≤ c * size = flat_few f c h rows size (omega arith) in
    let all : length (f x ++ flat_map f rows) ≤ c + c * size = few_join (f x) (flat_map f rows) c (c * size) one rest in
    omega (arith, all)

either_few : (b : Bool) (r : StoreRecord) → length (if b then [] else r ∷ []) ≤ 1
either_few true r = omega arith
either_few false r = omega arith

when_few : (b : Bool) (r : StoreRecord) → length (if b then r ∷ [] else []) ≤ 1
when_few true r = omega arith
when_few false r = omega arith

next_net_few : (index : ℕ) (next : Option (List ℕ)) → length (next_net index next) ≤ 1
next_net_few index None = omega arith
next_net_few index (Some key) = omega arith

next_app_few : (net index : ℕ) (next : Option (List ℕ)) → length (next_app net index next) ≤ 1
next_app_few net index None = omega arith
next_app_few net index (Some key) = omega arith

net_few : (row : NetKeyRow) → length (net_records row) ≤ 3
net_few row = omega (arith, next_net_few row.index row.next, when_few (row.phase == 2) (R.NetKey 3 row.index (replicate 16 0)), length-append (next_net row.index row.next) (second_phase row.index row.phase))

app_few : (row : AppKeyRow) → length (app_records row) ≤ 2
app_few row = omega (arith, next_app_few row.net row.index row.next)

feature_few : (which first value : ℕ) → length (feature_record which first value) ≤ 1
feature_few which first value = either_few (value == first) (R.Feature which value)

features_few : (beacon ttl friend relay retransmit transmit : ℕ) → length (feature_records beacon ttl friend relay retransmit transmit) ≤ FEATURES
features_few beacon ttl friend relay retransmit transmit =
    let a = feature_record 1 0 beacon in
    let b = feature_record 2 7 ttl in
    let c = feature_record 3 1 friend in
    let d = feature_record 4 256 (relay * 256 + retransmit) in
    let e = feature_record 5 0 transmit in
    let ab = few_join a b 1 1 (feature_few 1 0 beacon) (feature_few 2 7 ttl) in
    let abc = few_join (a ++ b) c 2 1 ab (feature_few 3 1 friend) in
    let abcd = few_join (a ++ b ++ c) d 3 1 abc (feature_few 4 256 (relay * 256 + retransmit)) in
    few_join (a ++ b ++ c ++ d) e 4 1 abcd (feature_few 5 0 transmit)

element_few : (onoffs levels : List ℕ) (element : ℕ) → length (element_records onoffs levels element) ≤ 2
element_few onoffs levels element =
    omega (
      arith,
      either_few (slice_index onoffs element == 0) (R.Model element 0x1000 (slice_index onoffs element)),
      either_few (slice_index levels element == 0) (R.Model element 0x1002 (slice_index levels element)),
      length-append (model_record 0x1000 element (slice_index onoffs element)) (model_record 0x1002 element (slice_index levels element)),
    )

names_few : (names : List Name) → 2 * length (replay_records names) ≤ length names + 1
names_few [] = omega arith
names_few (first ∷ []) = omega arith
names_few (first ∷ second ∷ names) = let h = names_few names in omega (arith, h)

half_few : (names records : ℕ) → 2 * records ≤ names + 1 → names ≤ REPLAY_ENTRIES → records ≤ REPLAY_RECORDS
half_few names records two few = omega (arith, two, few)

live_few : (p : Persist) → length p.replay ≤ REPLAY_ENTRIES → length (names_of p) ≤ REPLAY_ENTRIES
live_few p few =
    let same : length (names_of p) ≡ length (live_of p.iv.current p.replay) = length-by_index source_of (live_of p.iv.current p.replay) in
    let kept : length (live_of p.iv.current p.replay) ≤ length p.replay = filter_few (λ row. not (is_expired p.iv.current row.pair)) p.replay in
    omega (arith, same, kept, few)

pub snapshot_few : (p : Persist) → HasSizes p → length (snapshot_of p) ≤ SNAPSHOT_RECORDS
unfolding snapshot_of
snapshot_few p sizes =
    let f1 : length (part1 p) ≤ 1 = either_few (p.elements == 0) (R.Identity p.unicast p.elements p.dev_key) in
    let f2 : length (part2 p) ≤ 1 = omega arith in
    let f3 : length (part3 p) ≤ RECORDS_OF_NETWORK_KEY * NETWORK_KEYS = flat_few net_records RECORDS_OF_NETWORK_KEY net_few p.nets NETWORK_KEYS sizes.nets in
    let f4 : length (part4 p) ≤ RECORDS_OF_APPLICATION_KEY * APPLICATION_KEYS = flat_few app_records RECORDS_OF_APPLICATION_KEY app_few p.apps APPLICATION_KEYS sizes.apps in
    let f5 : length (part5 p) ≤ BINDINGS = flat_few bind_records 1 (λ x. omega arith) p.binds BINDINGS sizes.binds in
    let f6 : length (part6 p) ≤ GROUP_SUBSCRIPTIONS = flat_few sub_records 1 (λ x. omega arith) p.subs GROUP_SUBSCRIPTIONS sizes.subs in
    let f7 : length (part7 p) ≤ LABEL_SUBSCRIPTIONS = flat_few label_records 1 (λ x. omega arith) p.labels LABEL_SUBSCRIPTIONS sizes.labels in
    let f8 : length (part8 p) ≤ FEATURES = features_few p.beacon p.ttl p.friend p.relay p.retransmit p.transmit in
    let f9 : length (part9 p) ≤ SERVERS = flat_few (element_records p.onoffs p.levels) 2 (element_few p.onoffs p.levels) (range_with_len 0 ELEMENTS) ELEMENTS (omega arith) in
    let f10 : length (part10 p) ≤ REPLAY_RECORDS = half_few (length (names_of p)) (length (replay_records (names_of p))) (names_few (names_of p)) (live_few p sizes.replay) in
    let f11 : length (part11 p) ≤ 1 = when_few p.reset R.Reset in
    let f12 : length (part12 p) ≤ PUBLICATIONS = flat_few publish_records 1 (λ x. omega arith) p.publications PUBLICATIONS sizes.publications in
    let g2 = few_join (front1 p) (part2 p) 1 1 f1 f2 in
    let g3 = few_join (front2 p) (part3 p) (1 + 1) (RECORDS_OF_NETWORK_KEY * NETWORK_KEYS) g2 f3 in
    let g4 = few_join (front3 p) (part4 p) (1 + 1 + RECORDS_OF_NETWORK_KEY * NETWORK_KEYS) (RECORDS_OF_APPLICATION_KEY * APPLICATION_KEYS) g3 f4 in
    let g5 = few_join (front4 p) (part5 p) (1 + 1 + RECORDS_OF_NETWORK_KEY * NETWORK_KEYS + RECORDS_OF_APPLICATION_KEY * APPLICATION_KEYS) BINDINGS g4 f5 in
    let g6 = few_join (front5 p) (part6 p) (1 + 1 + RECORDS_OF_NETWORK_KEY * NETWORK_KEYS + RECORDS_OF_APPLICATION_KEY * APPLICATION_KEYS + BINDINGS) GROUP_SUBSCRIPTIONS g5 f6 in
    let g7 = few_join (front6 p) (part7 p) (1 + 1 + RECORDS_OF_NETWORK_KEY * NETWORK_KEYS + RECORDS_OF_APPLICATION_KEY * APPLICATION_KEYS + BINDINGS + GROUP_SUBSCRIPTIONS) LABEL_SUBSCRIPTIONS g6 f7 in
    let g8 = few_join (front7 p) (part8 p) (1 + 1 + RECORDS_OF_NETWORK_KEY * NETWORK_KEYS + RECORDS_OF_APPLICATION_KEY * APPLICATION_KEYS + BINDINGS + GROUP_SUBSCRIPTIONS + LABEL_SUBSCRIPTIONS) FEATURES g7 f8 in
    let g9 = few_join (front8 p) (part9 p) (1 + 1 + RECORDS_OF_NETWORK_KEY * NETWORK_KEYS + RECORDS_OF_APPLICATION_KEY * APPLICATION_KEYS + BINDINGS + GROUP_SUBSCRIPTIONS + LABEL_SUBSCRIPTIONS + FEATURES) SERVERS g8 f9 in
    let g10 = few_join (front9 p) (part10 p) (1 + 1 + RECORDS_OF_NETWORK_KEY * NETWORK_KEYS + RECORDS_OF_APPLICATION_KEY * APPLICATION_KEYS + BINDINGS + GROUP_SUBSCRIPTIONS + LABEL_SUBSCRIPTIONS + FEATURES + SERVERS) REPLAY_RECORDS g9 f10 in
    let g11 = few_join (front10 p) (part11 p) (1 + 1 + RECORDS_OF_NETWORK_KEY * NETWORK_KEYS + RECORDS_OF_APPLICATION_KEY * APPLICATION_KEYS + BINDINGS + GROUP_SUBSCRIPTIONS + LABEL_SUBSCRIPTIONS + FEATURES + SERVERS + REPLAY_RECORDS) 1 g10 f11 in
    few_join (front11 p) (part12 p) (1 + 1 + RECORDS_OF_NETWORK_KEY * NETWORK_KEYS + RECORDS_OF_APPLICATION_KEY * APPLICATION_KEYS + BINDINGS + GROUP_SUBSCRIPTIONS + LABEL_SUBSCRIPTIONS + FEATURES + SERVERS + REPLAY_RECORDS + 1) PUBLICATIONS g11 f12
