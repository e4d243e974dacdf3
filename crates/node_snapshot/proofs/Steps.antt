-- Each part of a snapshot leads from a config without it to one with it.
use Rattle.std.proofs.Common.{◌≡◌, inl, inr, ℕ, ◌+◌, ◌*◌, ◌/◌, ◌%◌, ◌^◌, ◌<◌, ◌≤◌, Bool, true, false, List, [], ◌∷◌, ◌++◌, length, refl, ap, sym, subst, ◌∙◌, arith, true≢false, append_assoc, append-nil, length-append}
use Rattle.std.specs.Prelude.{◌==◌, if◌then◌else◌, IsTrue, IfSome, Option, Some, None, replicate, slice_set}
use Rattle.std.specs.List.{AllByRecursion, flat_map}
use Rattle.std.proofs.lemmas.Bool.{eqb-true}
use Rattle.std.proofs.lemmas.Bool.Decides.{nat_tests}
use Rattle.node_limits.specs.declared.TheConstants.{REPLAY_ENTRIES}
use Rattle.layer_definitions.specs.KeyRefresh.{net_index, app_index}
use Rattle.layer_definitions.specs.Order.{put_by, IsByIndexFrom}
use Rattle.mesh_base.specs.declared.address.Address.{Address}
use Rattle.mesh_base.specs.declared.iv_state.IvState.{IvState}
use Rattle.mesh_base.specs.declared.keys.NetKeyRow.{NetKeyRow}
use Rattle.mesh_base.specs.declared.keys.AppKeyRow.{AppKeyRow}
use Rattle.mesh_base.specs.declared.pair.Name.{Name}
use Rattle.record_types.specs.declared.records.PublishRow.{PublishRow}
use Rattle.record_types.specs.declared.records.StoreRecord.{StoreRecord}
use Rattle.record_types.specs.declared.records.StoreRecord.TheVariants as R
use Rattle.store_definitions.specs.Config.{Config, no_config, changed, nets_after, apps_after, binds_after, subs_after, labels_after, publication_index}
use Rattle.store_definitions.specs.Ranges.{IsInRange, IsKey, IsNameInRange, is_feature}
use Rattle.node_records.specs.Tables.{IsApart}
use Rattle.node_records.proofs.Rising.{Rises}
use Rattle.node_records.proofs.Said.{IsIv}
use Rattle.node_snapshot.specs.Parts.{identity_records, next_net, second_phase, net_records, next_app, app_records, bind_records, sub_records, label_records, feature_record, feature_records, model_record, model_records, replay_records, reset_records, publish_records}
use Rattle.node_snapshot.specs.Snapshot.{source_of}
use Rattle.node_snapshot.proofs.Built.{IsNetRow, NextFits, IsAppRow, AreBinds, IsBindRow, same_bind, bind_symmetric, AreSubs, IsSubRow, same_sub, sub_symmetric, AreLabels, IsLabelRow, same_label, label_symmetric, IsPublishRow, AreFeatures, AreKept, HasIdentity}
use Rattle.node_snapshot.proofs.Entries.{second_is, tail_order}
use Rattle.node_snapshot.proofs.Leads.{Leads, leads_step, leads_then, extend}
use Rattle.node_snapshot.proofs.Tables.{all_at, none_at, put_last, change_last}

-- Identity and Numbers.

abbrev pub with_identity : Address → ℕ → List ℕ → Config
with_identity unicast elements dev_key = record no_config { unicast = unicast; elements = elements; dev_key = dev_key }

pub identity_leads : (names : List Name) (unicast : Address) (elements : ℕ) (dev_key : List ℕ) → HasIdentity unicast elements dev_key
    → Leads no_config names (identity_records unicast elements dev_key) (with_identity unicast elements dev_key) names
unfolding changed
identity_leads names unicast elements dev_key (inl e) =
    subst (λ (x : Address × ℕ × List ℕ). Leads no_config names (identity_records x.0 x.1 x.2) (with_identity x.0 x.1 x.2) names) (sym e) (refl, refl)
identity_leads names unicast elements dev_key (inr r) =
    let some : elements == 0 ≡ false = let least : 1 ≤ elements = r.0 in grind (arith, nat_tests) in
    rw some (r, tt, (refl, refl))

pub numbers_leads : (c : Config) (names : List Name) (iv : IvState) (mark : ℕ) → c.iv.current ≡ 0 → IsIv iv mark
    → Leads c names (R.Numbers iv.current iv.progress mark iv.hours iv.since ∷ []) (record c { iv = iv; mark = mark }) names
unfolding changed
numbers_leads c names iv mark first h = ((h.current, h.transmit, h.mark, h.hours, h.since), omega (arith, first), (refl, refl))

-- how many rows there are up to one of them
few_rows : {A : Type 0} (all done : List A) (r : A) (rest : List A) (n : ℕ) → done ++ r ∷ rest ≡ all → length all ≤ n → length done + 1 ≤ n
few_rows all done r rest n e few = omega (arith, ap (λ l. length l) e, length-append done (r ∷ rest), few)

-- a list that is `done` with one row at its end
one_more : {A : Type 0} (xs done : List A) (x : A) (n : ℕ) → xs ≡ done ++ x ∷ [] → length done + 1 ≤ n → length xs ≤ n
one_more xs done x n e few = omega (arith, ap (λ l. length l) e, length-append done (x ∷ []), few)

-- Network keys.

module _ (c : Config) (names : List Name) where
  abbrev pub with_nets : List NetKeyRow → Config
  with_nets rows = record c { nets = rows }

  -- one record of a network key turns the table into another
  net_step : (rows new : List NetKeyRow) (op index : ℕ) (key : List ℕ) (items : List StoreRecord) (e : Config) → op ≤ 3 → IsInRange (R.NetKey op index key)
      → nets_after op index key rows ≡ new → length new ≤ 4 → changed (with_nets rows) (R.NetKey op index key) ≡ with_nets (nets_after op index key rows)
      → Leads (with_nets new) names items e names → Leads (with_nets rows) names (R.NetKey op index key ∷ items) e names
  net_step rows new op index key items e le range to few same rest =
      leads_step (with_nets rows) (with_nets new) e names names (R.NetKey op index key) items range
      (subst (λ l. length l ≤ 4) (sym to) few) (same ∙ ap with_nets to) refl rest

  module _ (all : List NetKeyRow) (rises : Rises net_index all) (few : length all ≤ 4) (done : List NetKeyRow) (r : NetKeyRow) (rest : List NetKeyRow) (split : done ++ r ∷ rest ≡ all) where
    abbrev first_row : NetKeyRow
    first_row = record { index = r.index; phase = 0; key = r.key; next = None }

    size : (x : NetKeyRow) → length (done ++ x ∷ []) ≤ 4
    size x = one_more (done ++ x ∷ []) done x 4 refl (few_rows all done r rest 4 split few)

    net_add : (items : List StoreRecord) (e : Config) → r.index ≤ 0xfff → IsKey r.key → Leads (with_nets (done ++ first_row ∷ [])) names items e names
        → Leads (with_nets done) names (R.NetKey 1 r.index r.key ∷ items) e names
    unfolding changed
    net_add items e least key rest_leads =
        net_step done (done ++ first_row ∷ []) 1 r.index r.key items e (omega arith) (omega arith, omega arith, least, key)
        (put_last net_index all done r rest first_row split rises refl) (size first_row) refl rest_leads

    net_update : (x : NetKeyRow) (key : List ℕ) (items : List StoreRecord) (e : Config) → x.index ≡ r.index → r.index ≤ 0xfff → IsKey key
        → Leads (with_nets (done ++ record x { phase = 1; next = Some key } ∷ [])) names items e names
        → Leads (with_nets (done ++ x ∷ [])) names (R.NetKey 2 r.index key ∷ items) e names
    unfolding changed
    net_update x key items e same least h rest_leads =
        net_step (done ++ x ∷ []) (done ++ record x { phase = 1; next = Some key } ∷ []) 2 r.index key items e (omega arith) (omega arith, omega arith, least, h)
        (change_last net_index (λ y. record y { phase = 1; next = Some key }) r.index all done r rest x split rises refl same)
        (size (record x { phase = 1; next = Some key })) refl rest_leads

    net_second : (x : NetKeyRow) (items : List StoreRecord) (e : Config) → x.index ≡ r.index → r.index ≤ 0xfff
        → Leads (with_nets (done ++ record x { phase = 2 } ∷ [])) names items e names
        → Leads (with_nets (done ++ x ∷ [])) names (R.NetKey 3 r.index (replicate 16 0) ∷ items) e names
    unfolding changed
    net_second x items e same least rest_leads =
        net_step (done ++ x ∷ []) (done ++ record x { phase = 2 } ∷ []) 3 r.index (replicate 16 0) items e (omega arith) (omega arith, omega arith, least, refl)
        (change_last net_index (λ y. record y { phase = 2 }) r.index all done r rest x split rises refl same)
        (size (record x { phase = 2 })) refl rest_leads

    abbrev full_row : Option (List ℕ) → ℕ → NetKeyRow
    full_row next phase = record { index = r.index; phase = phase; key = r.key; next = next }

    abbrev RowLeads : Option (List ℕ) → ℕ → Type 0
    RowLeads next phase =
        Leads (with_nets done) names (R.NetKey 1 r.index r.key ∷ (next_net r.index next ++ second_phase r.index phase)) (with_nets (done ++ full_row next phase ∷ [])) names

    abbrev end : Option (List ℕ) → ℕ → Config
    end next phase = with_nets (done ++ full_row next phase ∷ [])

    abbrev second_of : List StoreRecord
    second_of = R.NetKey 3 r.index (replicate 16 0) ∷ []

    abbrev update_of : List ℕ → List StoreRecord → List StoreRecord
    update_of new items = R.NetKey 2 r.index new ∷ items

    by_next : (next : Option (List ℕ)) (phase : ℕ) → r.index ≤ 0xfff → IsKey r.key → NextFits next phase → RowLeads next phase
    by_next None phase least key (inl e) = subst (λ p. RowLeads None p) (sym e) (net_add [] (end None 0) least key (refl, refl))
    by_next None phase least key (inr e) =
        subst (λ p. RowLeads None p) (sym e) (net_add second_of (end None 2) least key (net_second first_row [] (end None 2) refl least (refl, refl)))
    by_next (Some new) phase least key (h, inl e) =
        subst (λ p. RowLeads (Some new) p) (sym e)
        (net_add (update_of new []) (end (Some new) 1) least key (net_update first_row new [] (end (Some new) 1) refl least h (refl, refl)))
    by_next (Some new) phase least key (h, inr e) =
        subst (λ p. RowLeads (Some new) p) (sym e)
        (net_add (update_of new second_of) (end (Some new) 2) least key
        (net_update first_row new second_of (end (Some new) 2) refl least h (net_second (full_row (Some new) 1) [] (end (Some new) 2) refl least (refl, refl))))

    net_leads : IsNetRow r → Leads (with_nets done) names (net_records r) (with_nets (done ++ r ∷ [])) names
    net_leads row = by_next r.next r.phase row.index row.key row.next

  pub nets_lead : (all : List NetKeyRow) → AllByRecursion IsNetRow all → Rises net_index all → length all ≤ 4 → Leads (with_nets []) names (flat_map net_records all) (with_nets all) names
  nets_lead all rows rises few =
      extend with_nets names net_records all
      (λ done r rest e. net_leads all rises few done r rest e (all_at IsNetRow all done r rest e rows)) [] all refl

-- Application keys.

module _ (c : Config) (names : List Name) where
  abbrev pub with_apps : List AppKeyRow → Config
  with_apps rows = record c { apps = rows }

  module _ (all : List AppKeyRow) (rises : Rises app_index all) (few : length all ≤ 8) (done : List AppKeyRow) (r : AppKeyRow) (rest : List AppKeyRow) (split : done ++ r ∷ rest ≡ all) where
    abbrev first_app : AppKeyRow
    first_app = record { net = r.net; index = r.index; key = r.key; next = None }

    app_size : (x : AppKeyRow) → length (done ++ x ∷ []) ≤ 8
    app_size x = one_more (done ++ x ∷ []) done x 8 refl (few_rows all done r rest 8 split few)

    app_add : (items : List StoreRecord) (e : Config) → r.net ≤ 0xfff → r.index ≤ 0xfff → IsKey r.key → Leads (with_apps (done ++ first_app ∷ [])) names items e names
        → Leads (with_apps done) names (R.AppKey 1 r.net r.index r.key ∷ items) e names
    unfolding changed
    app_add items e net index key rest_leads =
        let to : put_by app_index first_app done ≡ done ++ first_app ∷ [] = put_last app_index all done r rest first_app split rises refl in
        leads_step (with_apps done) (with_apps (done ++ first_app ∷ [])) e names names (R.AppKey 1 r.net r.index r.key) items (omega arith, omega arith, net, index, key)
        (subst (λ l. length l ≤ 8) (sym to) (app_size first_app)) (ap with_apps to) refl rest_leads

    app_update : (x : AppKeyRow) (key : List ℕ) (items : List StoreRecord) (e : Config) → x.index ≡ r.index → r.net ≤ 0xfff → r.index ≤ 0xfff → IsKey key
        → Leads (with_apps (done ++ record x { next = Some key } ∷ [])) names items e names
        → Leads (with_apps (done ++ x ∷ [])) names (R.AppKey 2 r.net r.index key ∷ items) e names
    unfolding changed
    app_update x key items e same net index h rest_leads =
        let to : apps_after 2 r.net r.index key (done ++ x ∷ []) ≡ done ++ record x { next = Some key } ∷ [] =
        change_last app_index (λ y. record y { next = Some key }) r.index all done r rest x split rises refl same in
        leads_step (with_apps (done ++ x ∷ [])) (with_apps (done ++ record x { next = Some key } ∷ [])) e names names (R.AppKey 2 r.net r.index key) items (omega arith, omega arith, net, index, h)
        (subst (λ l. length l ≤ 8) (sym to) (app_size (record x { next = Some key }))) (ap with_apps to) refl rest_leads

    by_value : (next : Option (List ℕ)) → r.net ≤ 0xfff → r.index ≤ 0xfff → IsKey r.key → IfSome next IsKey
        → Leads (with_apps done) names (R.AppKey 1 r.net r.index r.key ∷ next_app r.net r.index next) (with_apps (done ++ record first_app { next = next } ∷ [])) names
    by_value None net index key h = app_add [] (with_apps (done ++ first_app ∷ [])) net index key (refl, refl)
    by_value (Some new) net index key h =
        let end : Config = with_apps (done ++ record first_app { next = Some new } ∷ []) in
        app_add (R.AppKey 2 r.net r.index new ∷ []) end net index key (app_update first_app new [] end refl net index h (refl, refl))

    app_leads : IsAppRow r → Leads (with_apps done) names (app_records r) (with_apps (done ++ r ∷ [])) names
    app_leads row = by_value r.next row.net row.index row.key row.next

  pub apps_lead : (all : List AppKeyRow) → AllByRecursion IsAppRow all → Rises app_index all → length all ≤ 8 → Leads (with_apps []) names (flat_map app_records all) (with_apps all) names
  apps_lead all rows rises few =
      extend with_apps names app_records all
      (λ done r rest e. app_leads all rises few done r rest e (all_at IsAppRow all done r rest e rows)) [] all refl

-- Bindings, subscriptions, labels.

pushed : {A : Type 0} (b : Bool) (xs : List A) (x : A) → b ≡ false → (if b then xs else xs ++ x ∷ []) ≡ xs ++ x ∷ []
pushed true xs x e = absurd (true≢false e)
pushed false xs x e = refl

module _ (c : Config) (names : List Name) where
  abbrev pub with_binds : List (Address × ℕ × ℕ) → Config
  with_binds rows = record c { binds = rows }

  bind_leads : (all done : List (Address × ℕ × ℕ)) (b : Address × ℕ × ℕ) (rest : List (Address × ℕ × ℕ)) → AreBinds all → length all ≤ 32 → done ++ b ∷ rest ≡ all
      → Leads (with_binds done) names (bind_records b) (with_binds (done ++ b ∷ [])) names
  unfolding changed
  bind_leads all done b rest are few e =
      let to : binds_after 1 b.0 b.1 b.2 done ≡ done ++ b ∷ [] = pushed _ done b (none_at same_bind bind_symmetric all done b rest e are.distinct) in
      leads_step (with_binds done) (with_binds (done ++ b ∷ [])) (with_binds (done ++ b ∷ [])) names names (R.Bind 1 b.0 b.1 b.2) [] (all_at IsBindRow all done b rest e are.ranges)
      (one_more _ done b 32 to (few_rows all done b rest 32 e few)) (ap with_binds to) refl (refl, refl)

  pub binds_lead : (all : List (Address × ℕ × ℕ)) → AreBinds all → length all ≤ 32 → Leads (with_binds []) names (flat_map bind_records all) (with_binds all) names
  binds_lead all are few = extend with_binds names bind_records all (λ done b rest e. bind_leads all done b rest are few e) [] all refl

  abbrev pub with_subs : List (Address × ℕ × Address) → Config
  with_subs rows = record c { subs = rows }

  sub_leads : (all done : List (Address × ℕ × Address)) (s : Address × ℕ × Address) (rest : List (Address × ℕ × Address)) → AreSubs all → length all ≤ 32 → done ++ s ∷ rest ≡ all
      → Leads (with_subs done) names (sub_records s) (with_subs (done ++ s ∷ [])) names
  unfolding changed
  sub_leads all done s rest are few e =
      let to : subs_after 1 s.0 s.1 s.2 done ≡ done ++ s ∷ [] = pushed _ done s (none_at same_sub sub_symmetric all done s rest e are.distinct) in
      leads_step (with_subs done) (with_subs (done ++ s ∷ [])) (with_subs (done ++ s ∷ [])) names names (R.Subscribe 1 s.0 s.1 s.2) [] (all_at IsSubRow all done s rest e are.ranges)
      (one_more _ done s 32 to (few_rows all done s rest 32 e few)) (ap with_subs to) refl (refl, refl)

  pub subs_lead : (all : List (Address × ℕ × Address)) → AreSubs all → length all ≤ 32 → Leads (with_subs []) names (flat_map sub_records all) (with_subs all) names
  subs_lead all are few = extend with_subs names sub_records all (λ done s rest e. sub_leads all done s rest are few e) [] all refl

  abbrev pub with_labels : List (Address × ℕ × List ℕ) → Config
  with_labels rows = record c { labels = rows }

  label_leads : (all done : List (Address × ℕ × List ℕ)) (l : Address × ℕ × List ℕ) (rest : List (Address × ℕ × List ℕ)) → AreLabels all → length all ≤ 32 → done ++ l ∷ rest ≡ all
      → Leads (with_labels done) names (label_records l) (with_labels (done ++ l ∷ [])) names
  unfolding changed
  label_leads all done l rest are few e =
      let to : labels_after 1 l.0 l.1 l.2 done ≡ done ++ l ∷ [] = pushed _ done l (none_at same_label label_symmetric all done l rest e are.distinct) in
      leads_step (with_labels done) (with_labels (done ++ l ∷ [])) (with_labels (done ++ l ∷ [])) names names (R.Label 1 l.0 l.1 l.2) [] (all_at IsLabelRow all done l rest e are.ranges)
      (one_more _ done l 32 to (few_rows all done l rest 32 e few)) (ap with_labels to) refl (refl, refl)

  pub labels_lead : (all : List (Address × ℕ × List ℕ)) → AreLabels all → length all ≤ 32 → Leads (with_labels []) names (flat_map label_records all) (with_labels all) names
  labels_lead all are few = extend with_labels names label_records all (λ done l rest e. label_leads all done l rest are few e) [] all refl

  abbrev pub with_publications : List PublishRow → Config
  with_publications rows = record c { publications = rows }

  publish_leads : (all done : List PublishRow) (row : PublishRow) (rest : List PublishRow) → AllByRecursion IsPublishRow all → Rises publication_index all → length all ≤ 8 → done ++ row ∷ rest ≡ all
      → Leads (with_publications done) names (publish_records row) (with_publications (done ++ row ∷ [])) names
  unfolding changed
  publish_leads all done row rest rows rises few e =
      let to : put_by publication_index row done ≡ done ++ row ∷ [] = put_last publication_index all done row rest row e rises refl in
      leads_step (with_publications done) (with_publications (done ++ row ∷ [])) (with_publications (done ++ row ∷ [])) names names (R.Publish row) [] (all_at IsPublishRow all done row rest e rows)
      (one_more _ done row 8 to (few_rows all done row rest 8 e few)) (ap with_publications to) refl (refl, refl)

  pub publications_lead : (all : List PublishRow) → AllByRecursion IsPublishRow all → Rises publication_index all → length all ≤ 8
      → Leads (with_publications []) names (flat_map publish_records all) (with_publications all) names
  publications_lead all rows rises few = extend with_publications names publish_records all (λ done row rest e. publish_leads all done row rest rows rises few e) [] all refl

-- Features.

pub feature_leads : (c d : Config) (names : List Name) (which first value : ℕ) → IsTrue (is_feature which value) → (value ≡ first → c ≡ d) → changed c (R.Feature which value) ≡ d
    → Leads c names (feature_record which first value) d names
feature_leads c d names which first value range same to = by_test (value == first) refl
  where
    by_test : (b : Bool) → value == first ≡ b → Leads c names (if b then [] else R.Feature which value ∷ []) d names
    by_test true e = (same (eqb-true value first e), refl)
    by_test false e = (range, tt, (to, refl))

module _ (c : Config) (names : List Name) where
  abbrev pub with_features : ℕ → ℕ → ℕ → ℕ → ℕ → ℕ → Config
  with_features beacon ttl friend relay retransmit transmit =
      record c { beacon = beacon; ttl = ttl; friend = friend; relay = relay; retransmit = retransmit; transmit = transmit }

  high : (relay retransmit : ℕ) → retransmit < 256 → (relay * 256 + retransmit) / 256 ≡ relay
  high relay retransmit h = omega arith

  low : (relay retransmit : ℕ) → retransmit < 256 → (relay * 256 + retransmit) % 256 ≡ retransmit
  low relay retransmit h = omega arith

  first_relay : (relay retransmit : ℕ) → retransmit < 256 → relay * 256 + retransmit ≡ 256 → relay ≡ 1
  first_relay relay retransmit h e = omega arith

  first_retransmit : (relay retransmit : ℕ) → retransmit < 256 → relay * 256 + retransmit ≡ 256 → retransmit ≡ 0
  first_retransmit relay retransmit h e = omega arith

  pub features_lead : (beacon ttl friend relay retransmit transmit : ℕ) → AreFeatures beacon ttl friend relay retransmit transmit
      → Leads (with_features 0 7 1 1 0 0) names (feature_records beacon ttl friend relay retransmit transmit) (with_features beacon ttl friend relay retransmit transmit) names
  unfolding changed
  features_lead b t f r s m are =
      let l1 : Leads (with_features 0 7 1 1 0 0) names (feature_record 1 0 b) (with_features b 7 1 1 0 0) names =
      feature_leads (with_features 0 7 1 1 0 0) (with_features b 7 1 1 0 0) names 1 0 b are.beacon_is (λ e. ap (λ x. with_features x 7 1 1 0 0) (sym e)) refl in
      let l2 : Leads (with_features b 7 1 1 0 0) names (feature_record 2 7 t) (with_features b t 1 1 0 0) names =
      feature_leads (with_features b 7 1 1 0 0) (with_features b t 1 1 0 0) names 2 7 t are.ttl_is (λ e. ap (λ x. with_features b x 1 1 0 0) (sym e)) refl in
      let l3 : Leads (with_features b t 1 1 0 0) names (feature_record 3 1 f) (with_features b t f 1 0 0) names =
      feature_leads (with_features b t 1 1 0 0) (with_features b t f 1 0 0) names 3 1 f are.friend_is (λ e. ap (λ x. with_features b t x 1 0 0) (sym e)) refl in
      let l4 : Leads (with_features b t f 1 0 0) names (feature_record 4 256 (r * 256 + s)) (with_features b t f r s 0) names =
      feature_leads (with_features b t f 1 0 0) (with_features b t f r s 0) names 4 256 (r * 256 + s) are.relay_is
      (λ e. λ i. with_features b t f (sym (first_relay r s are.retransmit_is e) i) (sym (first_retransmit r s are.retransmit_is e) i) 0)
      (λ i. with_features b t f (high r s are.retransmit_is i) (low r s are.retransmit_is i) 0) in
      let l5 : Leads (with_features b t f r s 0) names (feature_record 5 0 m) (with_features b t f r s m) names =
      feature_leads (with_features b t f r s 0) (with_features b t f r s m) names 5 0 m are.transmit_is (λ e. ap (λ x. with_features b t f r s x) (sym e)) refl in
      let a2 = leads_then _ _ _ names names names _ _ l1 l2 in
      let a3 = leads_then _ _ _ names names names _ _ a2 l3 in
      let a4 = leads_then _ _ _ names names names _ _ a3 l4 in
      leads_then _ _ _ names names names _ _ a4 l5

-- Kept values.

pub model_leads : (c d : Config) (names : List Name) (model element value : ℕ) → IsInRange (R.Model element model value) → (value ≡ 0 → c ≡ d) → changed c (R.Model element model value) ≡ d
    → Leads c names (model_record model element value) d names
model_leads c d names model element value range same to = by_test (value == 0) refl
  where
    by_test : (b : Bool) → value == 0 ≡ b → Leads c names (if b then [] else R.Model element model value ∷ []) d names
    by_test true e = (same (eqb-true value 0 e), refl)
    by_test false e = (range, tt, (to, refl))

module _ (c : Config) (names : List Name) where
  abbrev pub with_kept : List ℕ → List ℕ → Config
  with_kept onoffs levels = record c { onoffs = onoffs; levels = levels }

  -- the two values of one element
  element_leads : (onoffs onoffs2 levels levels2 : List ℕ) (element bit word : ℕ) → element < 4 → bit < 2 → word < 2 ^ 16
      → (bit ≡ 0 → onoffs ≡ onoffs2) → slice_set onoffs element bit ≡ onoffs2 → (word ≡ 0 → levels ≡ levels2) → slice_set levels element word ≡ levels2
      → Leads (with_kept onoffs levels) names (model_record 0x1000 element bit ++ model_record 0x1002 element word) (with_kept onoffs2 levels2) names
  unfolding changed
  element_leads onoffs onoffs2 levels levels2 element bit word place h k e f g i =
      leads_then (with_kept onoffs levels) (with_kept onoffs2 levels) (with_kept onoffs2 levels2) names names names (model_record 0x1000 element bit) (model_record 0x1002 element word)
      (model_leads (with_kept onoffs levels) (with_kept onoffs2 levels) names 0x1000 element bit (place, inl (refl, h)) (λ z. ap (λ l. with_kept l levels) (e z)) (ap (λ l. with_kept l levels) f))
      (model_leads (with_kept onoffs2 levels) (with_kept onoffs2 levels2) names 0x1002 element word (place, inr (refl, k)) (λ z. ap (λ l. with_kept onoffs2 l) (g z)) (ap (λ l. with_kept onoffs2 l) i))

  four_lead : (a1 a2 a3 a4 b1 b2 b3 b4 : ℕ) → a1 < 2 → a2 < 2 → a3 < 2 → a4 < 2 → b1 < 2 ^ 16 → b2 < 2 ^ 16 → b3 < 2 ^ 16 → b4 < 2 ^ 16
      → Leads (with_kept (replicate 4 0) (replicate 4 0)) names (model_records (a1 ∷ a2 ∷ a3 ∷ a4 ∷ []) (b1 ∷ b2 ∷ b3 ∷ b4 ∷ [])) (with_kept (a1 ∷ a2 ∷ a3 ∷ a4 ∷ []) (b1 ∷ b2 ∷ b3 ∷ b4 ∷ [])) names
  four_lead a1 a2 a3 a4 b1 b2 b3 b4 h1 h2 h3 h4 k1 k2 k3 k4 =
      let e0 = element_leads (0 ∷ 0 ∷ 0 ∷ 0 ∷ []) (a1 ∷ 0 ∷ 0 ∷ 0 ∷ []) (0 ∷ 0 ∷ 0 ∷ 0 ∷ []) (b1 ∷ 0 ∷ 0 ∷ 0 ∷ []) 0 a1 b1 (omega arith) h1 k1
      (λ z. ap (λ v. v ∷ 0 ∷ 0 ∷ 0 ∷ []) (sym z)) refl (λ z. ap (λ v. v ∷ 0 ∷ 0 ∷ 0 ∷ []) (sym z)) refl in
      let e1 = element_leads (a1 ∷ 0 ∷ 0 ∷ 0 ∷ []) (a1 ∷ a2 ∷ 0 ∷ 0 ∷ []) (b1 ∷ 0 ∷ 0 ∷ 0 ∷ []) (b1 ∷ b2 ∷ 0 ∷ 0 ∷ []) 1 a2 b2 (omega arith) h2 k2
      (λ z. ap (λ v. a1 ∷ v ∷ 0 ∷ 0 ∷ []) (sym z)) refl (λ z. ap (λ v. b1 ∷ v ∷ 0 ∷ 0 ∷ []) (sym z)) refl in
      let e2 = element_leads (a1 ∷ a2 ∷ 0 ∷ 0 ∷ []) (a1 ∷ a2 ∷ a3 ∷ 0 ∷ []) (b1 ∷ b2 ∷ 0 ∷ 0 ∷ []) (b1 ∷ b2 ∷ b3 ∷ 0 ∷ []) 2 a3 b3 (omega arith) h3 k3
      (λ z. ap (λ v. a1 ∷ a2 ∷ v ∷ 0 ∷ []) (sym z)) refl (λ z. ap (λ v. b1 ∷ b2 ∷ v ∷ 0 ∷ []) (sym z)) refl in
      let e3 = element_leads (a1 ∷ a2 ∷ a3 ∷ 0 ∷ []) (a1 ∷ a2 ∷ a3 ∷ a4 ∷ []) (b1 ∷ b2 ∷ b3 ∷ 0 ∷ []) (b1 ∷ b2 ∷ b3 ∷ b4 ∷ []) 3 a4 b4 (omega arith) h4 k4
      (λ z. ap (λ v. a1 ∷ a2 ∷ a3 ∷ v ∷ []) (sym z)) refl (λ z. ap (λ v. b1 ∷ b2 ∷ b3 ∷ v ∷ []) (sym z)) refl in
      leads_then _ _ _ names names names _ _ e0 (leads_then _ _ _ names names names _ _ e1 (leads_then _ _ _ names names names _ _ e2 (leads_then _ _ _ names names names _ [] e3 (refl, refl))))

  pub kept_lead : (onoffs levels : List ℕ) → AreKept onoffs levels
      → Leads (with_kept (replicate 4 0) (replicate 4 0)) names (model_records onoffs levels) (with_kept onoffs levels) names
  kept_lead (a1 ∷ a2 ∷ a3 ∷ a4 ∷ []) (b1 ∷ b2 ∷ b3 ∷ b4 ∷ []) are =
      four_lead a1 a2 a3 a4 b1 b2 b3 b4 are.bits.0 are.bits.1.0 are.bits.1.1.0 are.bits.1.1.1.0 are.words.0 are.words.1.0 are.words.1.1.0 are.words.1.1.1.0
  kept_lead onoffs levels are = absurd (omega (arith, are.four, are.places))

-- Names.

pub replay_lead : (c : Config) (done names : List Name) (n : ℕ) → AllByRecursion IsNameInRange names → IsApart names → IsByIndexFrom source_of n names → length done + length names ≤ REPLAY_ENTRIES
    → Leads c done (replay_records names) c (done ++ names)
unfolding changed
replay_lead c done [] n ranges apart order few = (refl, sym (append-nil done))
replay_lead c done (first ∷ []) n ranges apart order few = ((ranges.0, tt), omega (arith, few, length-append done (first ∷ [])), (refl, refl))
replay_lead c done (first ∷ second ∷ names) n ranges apart order few = (
  (ranges.0, (ranges.1.0, second_is n first second names order apart.0)),
  omega (arith, few, length-append done (first ∷ second ∷ [])),
  subst (λ all. Leads c (done ++ first ∷ second ∷ []) (replay_records names) c all) (append_assoc done (first ∷ second ∷ []) names)
      (replay_lead c (done ++ first ∷ second ∷ []) names second.src.0 ranges.1.1 apart.1.1 (tail_order n first second names order)
      (omega (arith, few, length-append done (first ∷ second ∷ [])))),
)

-- Reset.

pub reset_leads : (c : Config) (names : List Name) (reset : Bool) → c.reset ≡ false → Leads c names (reset_records reset) (record c { reset = reset }) names
unfolding changed
reset_leads c names true first = (tt, tt, (refl, refl))
reset_leads c names false first = (ap (λ b. record c { reset = b }) first, refl)
