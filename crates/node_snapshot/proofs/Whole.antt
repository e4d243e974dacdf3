-- The snapshot leads from no records to the value.
use Rattle.std.proofs.Common.{◌≡◌, ℕ, ◌≤◌, List, [], ◌∷◌, length, refl, ap, sym, subst, ◌∙◌, arith}
use Rattle.std.specs.Prelude.{IfSome, Option, not}
use Rattle.std.specs.List.{flat_map}
use Rattle.node_limits.specs.declared.TheConstants.{REPLAY_ENTRIES}
use Rattle.layer_definitions.proofs.OrderLaws.{is_by_index, length-by_index}
use Rattle.mesh_base.specs.Pairs.{is_expired}
use Rattle.mesh_base.specs.declared.pair.Name.{Name}
use Rattle.mesh_base.specs.declared.pair.Pair.{Pair}
use Rattle.record_types.specs.declared.records.StoreRecord.TheVariants as R
use Rattle.store_definitions.specs.Config.{Config, no_config, config_of}
use Rattle.store_definitions.specs.Entries.{kept_of, entry_of, unexpired}
use Rattle.store_definitions.specs.Ranges.{IsNameInRange}
use Rattle.node_records.specs.declared.persist.Persist.{Persist}
use Rattle.node_records.specs.Meaning.{IsSaid}
use Rattle.node_records.specs.Places.{live_of}
use Rattle.node_records.specs.Tables.{config_in, pair_of}
use Rattle.node_records.proofs.Changes.{filter_few}
use Rattle.node_records.proofs.Rising.{AreKeyed, keyed_of}
use Rattle.node_records.proofs.Said.{IsIv, iv_in}
use Rattle.node_snapshot.specs.Parts.{identity_records, net_records, app_records, bind_records, sub_records, label_records, feature_records, model_records, replay_records, reset_records, publish_records}
use Rattle.node_snapshot.specs.Sizes.{HasSizes}
use Rattle.node_snapshot.specs.Snapshot.{IsSnapshot, names_of, snapshot_of}
use Rattle.node_snapshot.proofs.Built.{IsBuilt, built_of}
use Rattle.node_snapshot.proofs.Entries.{AreNames, names_are, entries_are, entry_in_range, named, all_in_range}
use Rattle.node_snapshot.proofs.Leads.{Leads, leads_then, leads_ranges, leads_config, leads_kept, leads_order, kept_by}
use Rattle.node_snapshot.proofs.Steps.{with_identity, identity_leads, numbers_leads, nets_lead, apps_lead, binds_lead, subs_lead, labels_lead, features_lead, kept_lead, replay_lead, reset_leads, publications_lead}

module _ (p : Persist) (said : IsSaid p) (sizes : HasSizes p) where
  built : IsBuilt (config_in p)
  built = subst IsBuilt (sym said.meaning.config) (built_of said.records said.ranges)

  keyed : AreKeyed (config_in p)
  keyed = subst AreKeyed (sym said.meaning.config) (keyed_of said.records)

  iv : IsIv p.iv p.mark
  iv = iv_in p said

  names : List Name
  names = names_of p

  are : AreNames p.iv.current p.replay (names_of p)
  are = names_are p.iv.current p.replay said.meaning.apart

  pairs_in_range : (src : ℕ) → IfSome (pair_of (names_of p) src) (λ q. IsNameInRange (named src q))
  pairs_in_range src =
      let entry : pair_of (names_of p) src ≡ entry_of said.records src = are.pairs src ∙ said.meaning.entries src in
      subst (λ (o : Option Pair). IfSome o (λ q. IsNameInRange (named src q))) (sym entry) (entry_in_range said.records src said.ranges)

  names_few : length (names_of p) ≤ REPLAY_ENTRIES
  names_few = omega (arith, length-by_index (λ (n : Name). n.src.0) (live_of p.iv.current p.replay), filter_few (λ row. not (is_expired p.iv.current row.pair)) p.replay, sizes.replay)

  -- what the parts say, one after another
  abbrev c1 : Config
  c1 = with_identity p.unicast p.elements p.dev_key

  abbrev c2 : Config
  c2 = record c1 { iv = p.iv; mark = p.mark }

  abbrev c3 : Config
  c3 = record c2 { nets = p.nets }

  abbrev c4 : Config
  c4 = record c3 { apps = p.apps }

  abbrev c5 : Config
  c5 = record c4 { binds = p.binds }

  abbrev c6 : Config
  c6 = record c5 { subs = p.subs }

  abbrev c7 : Config
  c7 = record c6 { labels = p.labels }

  abbrev c8 : Config
  c8 = record c7 { beacon = p.beacon; ttl = p.ttl; friend = p.friend; relay = p.relay; retransmit = p.retransmit; transmit = p.transmit }

  abbrev c9 : Config
  c9 = record c8 { onoffs = p.onoffs; levels = p.levels }

  abbrev c10 : Config
  c10 = record c9 { reset = p.reset }

  pub snapshot_leads : Leads no_config [] (snapshot_of p) (config_in p) (names_of p)
  unfolding snapshot_of
  snapshot_leads =
      let l1 : Leads no_config [] (identity_records p.unicast p.elements p.dev_key) c1 [] = identity_leads [] p.unicast p.elements p.dev_key built.identity_is in
      let l2 : Leads c1 [] (R.Numbers p.iv.current p.iv.progress p.mark p.iv.hours p.iv.since ∷ []) c2 [] = numbers_leads c1 [] p.iv p.mark refl iv in
      let l3 : Leads c2 [] (flat_map net_records p.nets) c3 [] = nets_lead c2 [] p.nets built.nets keyed.nets sizes.nets in
      let l4 : Leads c3 [] (flat_map app_records p.apps) c4 [] = apps_lead c3 [] p.apps built.apps keyed.apps sizes.apps in
      let l5 : Leads c4 [] (flat_map bind_records p.binds) c5 [] = binds_lead c4 [] p.binds built.binds sizes.binds in
      let l6 : Leads c5 [] (flat_map sub_records p.subs) c6 [] = subs_lead c5 [] p.subs built.subs sizes.subs in
      let l7 : Leads c6 [] (flat_map label_records p.labels) c7 [] = labels_lead c6 [] p.labels built.labels sizes.labels in
      let l8 : Leads c7 [] (feature_records p.beacon p.ttl p.friend p.relay p.retransmit p.transmit) c8 [] =
      features_lead c7 [] p.beacon p.ttl p.friend p.relay p.retransmit p.transmit built.features in
      let l9 : Leads c8 [] (model_records p.onoffs p.levels) c9 [] = kept_lead c8 [] p.onoffs p.levels built.kept in
      let l10 : Leads c9 [] (replay_records (names_of p)) c9 (names_of p) =
      replay_lead c9 [] (names_of p) 0 (all_in_range (names_of p) are.apart pairs_in_range) are.apart (is_by_index (λ (n : Name). n.src.0) (live_of p.iv.current p.replay)) (omega (arith, names_few)) in
      let l11 : Leads c9 (names_of p) (reset_records p.reset) c10 (names_of p) = reset_leads c9 (names_of p) p.reset refl in
      let l12 : Leads c10 (names_of p) (flat_map publish_records p.publications) (config_in p) (names_of p) =
      publications_lead c10 (names_of p) p.publications built.publications keyed.publications sizes.publications in
      let a2 = leads_then no_config c1 c2 [] [] [] _ _ l1 l2 in
      let a3 = leads_then no_config c2 c3 [] [] [] _ _ a2 l3 in
      let a4 = leads_then no_config c3 c4 [] [] [] _ _ a3 l4 in
      let a5 = leads_then no_config c4 c5 [] [] [] _ _ a4 l5 in
      let a6 = leads_then no_config c5 c6 [] [] [] _ _ a5 l6 in
      let a7 = leads_then no_config c6 c7 [] [] [] _ _ a6 l7 in
      let a8 = leads_then no_config c7 c8 [] [] [] _ _ a7 l8 in
      let a9 = leads_then no_config c8 c9 [] [] [] _ _ a8 l9 in
      let a10 = leads_then no_config c9 c9 [] [] (names_of p) _ _ a9 l10 in
      let a11 = leads_then no_config c9 c10 [] (names_of p) (names_of p) _ _ a10 l11 in
      leads_then no_config c10 (config_in p) [] (names_of p) (names_of p) _ _ a11 l12

  pub snapshot_is : IsSnapshot (snapshot_of p) p
  snapshot_is =
      let config : config_of (snapshot_of p) ≡ config_in p = leads_config no_config (config_in p) [] (names_of p) (snapshot_of p) snapshot_leads in
      record {
        ranges = leads_ranges no_config (config_in p) [] (names_of p) (snapshot_of p) snapshot_leads;
        order = leads_order [] no_config (config_in p) [] (names_of p) (snapshot_of p) refl (omega arith) snapshot_leads;
        meaning = record {
          config = sym config;
          entries = λ src.
              let kept : kept_of (snapshot_of p) src ≡ kept_by (names_of p) src = leads_kept no_config (config_in p) [] (names_of p) (snapshot_of p) snapshot_leads src in
              entries_are p.iv.current p.replay (names_of p) src are ∙ ap (unexpired p.iv.current) (sym kept)
              ∙ ap (λ (c : Config). unexpired c.iv.current (kept_of (snapshot_of p) src)) (sym config);
          apart = said.meaning.apart;
        };
      }
