-- The parts of a snapshot, and how far it goes with each of them.
use Rattle.std.proofs.Common.{◌≡◌, ℕ, List, [], ◌∷◌, ◌++◌, Ok, Err}
use Rattle.std.specs.List.{flat_map}
use Rattle.record_types.specs.declared.records.StoreRecord.{StoreRecord}
use Rattle.record_types.specs.declared.records.StoreRecord.TheVariants as R
use Rattle.node_records.specs.declared.persist.Persist.{Persist}
use Rattle.node_snapshot.specs.Parts.{identity_records, net_records, app_records, bind_records, sub_records, label_records, feature_records, model_records, replay_records, reset_records, publish_records}
use Rattle.node_snapshot.specs.Passing.{passed}
use Rattle.node_snapshot.specs.Snapshot.{names_of, snapshot_of}
use Rattle.node_snapshot.proofs.Passing.{behind, here}

module _ (p : Persist) where
  abbrev pub part1 : List StoreRecord
  part1 = identity_records p.unicast p.elements p.dev_key

  abbrev pub part2 : List StoreRecord
  part2 = R.Numbers p.iv.current p.iv.progress p.mark p.iv.hours p.iv.since ∷ []

  abbrev pub part3 : List StoreRecord
  part3 = flat_map net_records p.nets

  abbrev pub part4 : List StoreRecord
  part4 = flat_map app_records p.apps

  abbrev pub part5 : List StoreRecord
  part5 = flat_map bind_records p.binds

  abbrev pub part6 : List StoreRecord
  part6 = flat_map sub_records p.subs

  abbrev pub part7 : List StoreRecord
  part7 = flat_map label_records p.labels

  abbrev pub part8 : List StoreRecord
  part8 = feature_records p.beacon p.ttl p.friend p.relay p.retransmit p.transmit

  abbrev pub part9 : List StoreRecord
  part9 = model_records p.onoffs p.levels

  abbrev pub part10 : List StoreRecord
  part10 = replay_records (names_of p)

  abbrev pub part11 : List StoreRecord
  part11 = reset_records p.reset

  abbrev pub part12 : List StoreRecord
  part12 = flat_map publish_records p.publications

  abbrev pub front1 : List StoreRecord
  front1 = part1

  abbrev pub front2 : List StoreRecord
  front2 = front1 ++ part2

  abbrev pub front3 : List StoreRecord
  front3 = front2 ++ part3

  abbrev pub front4 : List StoreRecord
  front4 = front3 ++ part4

  abbrev pub front5 : List StoreRecord
  front5 = front4 ++ part5

  abbrev pub front6 : List StoreRecord
  front6 = front5 ++ part6

  abbrev pub front7 : List StoreRecord
  front7 = front6 ++ part7

  abbrev pub front8 : List StoreRecord
  front8 = front7 ++ part8

  abbrev pub front9 : List StoreRecord
  front9 = front8 ++ part9

  abbrev pub front10 : List StoreRecord
  front10 = front9 ++ part10

  abbrev pub front11 : List StoreRecord
  front11 = front10 ++ part11

  -- a record that stands so far in front stands there in the snapshot
  pub stops11 : (n : ℕ) (r : StoreRecord) → passed front11 n ≡ Err r → passed (snapshot_of p) n ≡ Err r
  unfolding snapshot_of
  stops11 n r e = here front11 part12 n r e

  pub stops10 : (n : ℕ) (r : StoreRecord) → passed front10 n ≡ Err r → passed (snapshot_of p) n ≡ Err r
  stops10 n r e = stops11 n r (here front10 part11 n r e)

  pub stops9 : (n : ℕ) (r : StoreRecord) → passed front9 n ≡ Err r → passed (snapshot_of p) n ≡ Err r
  stops9 n r e = stops10 n r (here front9 part10 n r e)

  pub stops8 : (n : ℕ) (r : StoreRecord) → passed front8 n ≡ Err r → passed (snapshot_of p) n ≡ Err r
  stops8 n r e = stops9 n r (here front8 part9 n r e)

  pub stops7 : (n : ℕ) (r : StoreRecord) → passed front7 n ≡ Err r → passed (snapshot_of p) n ≡ Err r
  stops7 n r e = stops8 n r (here front7 part8 n r e)

  pub stops6 : (n : ℕ) (r : StoreRecord) → passed front6 n ≡ Err r → passed (snapshot_of p) n ≡ Err r
  stops6 n r e = stops7 n r (here front6 part7 n r e)

  pub stops5 : (n : ℕ) (r : StoreRecord) → passed front5 n ≡ Err r → passed (snapshot_of p) n ≡ Err r
  stops5 n r e = stops6 n r (here front5 part6 n r e)

  pub stops4 : (n : ℕ) (r : StoreRecord) → passed front4 n ≡ Err r → passed (snapshot_of p) n ≡ Err r
  stops4 n r e = stops5 n r (here front4 part5 n r e)

  pub stops3 : (n : ℕ) (r : StoreRecord) → passed front3 n ≡ Err r → passed (snapshot_of p) n ≡ Err r
  stops3 n r e = stops4 n r (here front3 part4 n r e)

  -- only the last part is left
  pub ends : (n k : ℕ) → passed front11 n ≡ Ok k → passed (snapshot_of p) n ≡ passed part12 k
  unfolding snapshot_of
  ends n k e = behind front11 part12 n k e
