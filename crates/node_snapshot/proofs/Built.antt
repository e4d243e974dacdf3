-- What is true of the parts of what records in range say, apart from their order: of each row, each feature and each kept value.
use Rattle.std.proofs.Common.{◌≡◌, ◌⊎◌, inl, inr, ℕ, zero, suc, ◌+◌, ◌*◌, ◌/◌, ◌%◌, ◌^◌, ◌<◌, ◌≤◌, Bool, true, false, not, List, [], ◌∷◌, length, filter, refl, sym, subst, ◌∙◌, arith, true≢false, lit<, length-set}
use Rattle.std.specs.Prelude.{◌==◌, ◌&&◌, ◌||◌, if◌then◌else◌, IsTrue, IfSome, Option, Some, None, All, fold, replicate, unwrap_or, bytes_eq, slice_set}
use Rattle.std.specs.List.{AllByRecursion, list_any}
use Rattle.std.proofs.lemmas.Bool.{eqb-true}
use Rattle.std.proofs.lemmas.Bool.Decides.{nat_tests}
use Rattle.std.proofs.lemmas.Slice.Eq.{bytes_eq-Decides}
use Rattle.std.proofs.lemmas.List.Elements.{All-head, All-tail}
use Rattle.layer_definitions.specs.KeyRefresh.{net_index, app_index}
use Rattle.mesh_base.specs.declared.address.Address.{Address}
use Rattle.mesh_base.specs.declared.keys.NetKeyRow.{NetKeyRow}
use Rattle.mesh_base.specs.declared.keys.AppKeyRow.{AppKeyRow}
use Rattle.record_types.specs.declared.records.PublishRow.{PublishRow}
use Rattle.record_types.specs.declared.records.StoreRecord.{StoreRecord}
use Rattle.record_types.specs.declared.records.StoreRecord.TheVariants as R
use Rattle.store_definitions.specs.Config.{Config, config_of, no_config, changed, nets_after, apps_after, apps_after_net, binds_after, is_bind, subs_after, is_sub, labels_after, is_label, publication_index}
use Rattle.store_definitions.specs.Ranges.{IsInRange, IsKey, is_feature}
use Rattle.node_snapshot.proofs.Tables.{all_put, all_filter, all_map, all_if, all_pushed, all_push, all_set, pick, Distinct, distinct_filter, distinct_push, distinct_pushed, any_without}

-- Network keys: phase 2 may come without a next key, by a record that no node writes.
abbrev pub NextFits : Option (List ℕ) → ℕ → Type 0
NextFits None phase = (phase ≡ 0) ⊎ (phase ≡ 2)
NextFits (Some key) phase = IsKey key × ((phase ≡ 1) ⊎ (phase ≡ 2))

pub record IsNetRow (r : NetKeyRow) : Type 0 where
  pub index : r.index ≤ 0xfff
  pub key : IsKey r.key
  pub next : NextFits r.next r.phase

key_or : (next : Option (List ℕ)) (phase : ℕ) (key : List ℕ) → IsKey key → NextFits next phase → IsKey (unwrap_or next key)
key_or None phase key h k = h
key_or (Some next) phase key h k = k.0

second : (next : Option (List ℕ)) (phase : ℕ) → NextFits next phase → NextFits next 2
second None phase k = inr refl
second (Some next) phase k = (k.0, inr refl)

nets_built : (op index : ℕ) (key : List ℕ) (rows : List NetKeyRow) → IsInRange (R.NetKey op index key) → AllByRecursion IsNetRow rows → AllByRecursion IsNetRow (nets_after op index key rows)
nets_built zero index key rows r h = absurd (omega (arith, r.0))
nets_built (suc zero) index key rows r h = all_put IsNetRow net_index (record { index = index; phase = 0; key = key; next = None }) rows (record { index = r.2; key = r.3; next = inl refl }) h
nets_built (suc (suc zero)) index key rows r h =
    all_map IsNetRow _ (λ x k. pick IsNetRow (x.index == index) x (record x { phase = 1; next = Some key }) k (record { index = k.index; key = k.key; next = (r.3, inl refl) })) rows h
nets_built (suc (suc (suc zero))) index key rows r h =
    all_map IsNetRow _ (λ x k. pick IsNetRow (x.index == index) x (record x { phase = 2 }) k (record { index = k.index; key = k.key; next = second x.next x.phase k.next })) rows h
nets_built (suc (suc (suc (suc zero)))) index key rows r h =
    all_map IsNetRow _ (λ x k. pick IsNetRow (x.index == index) x (record x { phase = 0; key = unwrap_or x.next x.key; next = None }) k
    (record { index = k.index; key = key_or x.next x.phase x.key k.key k.next; next = inl refl })) rows h
nets_built (suc (suc (suc (suc (suc zero))))) index key rows r h = all_filter IsNetRow _ rows h
nets_built (suc (suc (suc (suc (suc (suc op)))))) index key rows r h = absurd (omega (arith, r.1))

-- Application keys.
pub record IsAppRow (r : AppKeyRow) : Type 0 where
  pub net : r.net ≤ 0xfff
  pub index : r.index ≤ 0xfff
  pub key : IsKey r.key
  pub next : IfSome r.next IsKey

new_or : (next : Option (List ℕ)) (key : List ℕ) → IsKey key → IfSome next IsKey → IsKey (unwrap_or next key)
new_or None key h k = h
new_or (Some next) key h k = k

apps_built_net : (op index : ℕ) (rows : List AppKeyRow) → AllByRecursion IsAppRow rows → AllByRecursion IsAppRow (apps_after_net op index rows)
apps_built_net op index rows h =
    all_if IsAppRow (op == 4) _ _
    (all_map IsAppRow _ (λ x k. pick IsAppRow (x.net == index) x (record x { key = unwrap_or x.next x.key; next = None }) k
    (record { net = k.net; index = k.index; key = new_or x.next x.key k.key k.next; next = tt })) rows h)
    (all_if IsAppRow (op == 5) _ _ (all_filter IsAppRow _ rows h) h)

apps_built : (op net index : ℕ) (key : List ℕ) (rows : List AppKeyRow) → IsInRange (R.AppKey op net index key) → AllByRecursion IsAppRow rows → AllByRecursion IsAppRow (apps_after op net index key rows)
apps_built zero net index key rows r h = absurd (omega (arith, r.0))
apps_built (suc zero) net index key rows r h =
    all_put IsAppRow app_index (record { net = net; index = index; key = key; next = None }) rows (record { net = r.2; index = r.3; key = r.4; next = tt }) h
apps_built (suc (suc zero)) net index key rows r h =
    all_map IsAppRow _ (λ x k. pick IsAppRow (x.index == index) x (record x { next = Some key }) k (record { net = k.net; index = k.index; key = k.key; next = r.4 })) rows h
apps_built (suc (suc (suc zero))) net index key rows r h = all_filter IsAppRow _ rows h
apps_built (suc (suc (suc (suc op)))) net index key rows r h = absurd (omega (arith, r.1))

-- Bindings, subscriptions, labels: in range, and no two the same.
abbrev pub same_bind : Address × ℕ × ℕ → Address × ℕ × ℕ → Bool
same_bind b = is_bind b.0 b.1 b.2

abbrev pub same_sub : Address × ℕ × Address → Address × ℕ × Address → Bool
same_sub s = is_sub s.0 s.1 s.2

abbrev pub same_label : Address × ℕ × List ℕ → Address × ℕ × List ℕ → Bool
same_label l = is_label l.0 l.1 l.2

swap : (a b : ℕ) → a == b ≡ b == a
swap a b = grind (arith, nat_tests)

bytes_swap : (a b : List ℕ) → bytes_eq a b ≡ bytes_eq b a
bytes_swap a b = by_tests (bytes_eq a b) (bytes_eq b a) refl refl
  where
    one : (x y : List ℕ) → bytes_eq x y ≡ true → bytes_eq y x ≡ true
    one x y e = (bytes_eq-Decides y x).1 (sym ((bytes_eq-Decides x y).0 e))

    by_tests : (b1 b2 : Bool) → bytes_eq a b ≡ b1 → bytes_eq b a ≡ b2 → b1 ≡ b2
    by_tests true b2 e f = sym (sym f ∙ one a b e)
    by_tests false true e f = sym e ∙ one b a f
    by_tests false false e f = refl

pub bind_symmetric : (x y : Address × ℕ × ℕ) → same_bind x y ≡ same_bind y x
bind_symmetric x y = λ i. (swap y.0.0 x.0.0 i && swap y.1 x.1 i) && swap y.2 x.2 i

pub sub_symmetric : (x y : Address × ℕ × Address) → same_sub x y ≡ same_sub y x
sub_symmetric x y = λ i. (swap y.0.0 x.0.0 i && swap y.1 x.1 i) && swap y.2.0 x.2.0 i

pub label_symmetric : (x y : Address × ℕ × List ℕ) → same_label x y ≡ same_label y x
label_symmetric x y = λ i. (swap y.0.0 x.0.0 i && swap y.1 x.1 i) && bytes_swap y.2 x.2 i

and_none : (b c : Bool) → b ≡ false → b && c ≡ false
and_none true c h = absurd (true≢false h)
and_none false c h = refl

abbrev pub IsBindRow : Address × ℕ × ℕ → Type 0
IsBindRow b = IsInRange (R.Bind 1 b.0 b.1 b.2)

abbrev pub IsSubRow : Address × ℕ × Address → Type 0
IsSubRow s = IsInRange (R.Subscribe 1 s.0 s.1 s.2)

abbrev pub IsLabelRow : Address × ℕ × List ℕ → Type 0
IsLabelRow l = IsInRange (R.Label 1 l.0 l.1 l.2)

pub record AreBinds (rows : List (Address × ℕ × ℕ)) : Type 0 where
  pub ranges : AllByRecursion IsBindRow rows
  pub distinct : Distinct same_bind rows

pub record AreSubs (rows : List (Address × ℕ × Address)) : Type 0 where
  pub ranges : AllByRecursion IsSubRow rows
  pub distinct : Distinct same_sub rows

pub record AreLabels (rows : List (Address × ℕ × List ℕ)) : Type 0 where
  pub ranges : AllByRecursion IsLabelRow rows
  pub distinct : Distinct same_label rows

binds_if : (b : Bool) (xs ys : List (Address × ℕ × ℕ)) → AreBinds xs → AreBinds ys → AreBinds (if b then xs else ys)
binds_if true xs ys h k = h
binds_if false xs ys h k = k

binds_filter : (t : Address × ℕ × ℕ → Bool) (rows : List (Address × ℕ × ℕ)) → AreBinds rows → AreBinds (filter t rows)
binds_filter t rows h = record { ranges = all_filter IsBindRow t rows h.ranges; distinct = distinct_filter same_bind bind_symmetric t rows h.distinct }

binds_built : (op : ℕ) (element : Address) (model app : ℕ) (rows : List (Address × ℕ × ℕ)) → IsInRange (R.Bind op element model app) → AreBinds rows → AreBinds (binds_after op element model app rows)
binds_built op element model app rows r h =
    let x : Address × ℕ × ℕ = (element, model, app) in
    binds_if (op == 1) _ _
    (record { ranges = all_pushed IsBindRow (list_any (same_bind x) rows) rows x h.ranges (omega arith, omega arith, r.2, r.3, r.4); distinct = distinct_pushed same_bind bind_symmetric rows x h.distinct })
    (binds_if (op == 2) _ _ (binds_filter _ rows h) h)

subs_if : (b : Bool) (xs ys : List (Address × ℕ × Address)) → AreSubs xs → AreSubs ys → AreSubs (if b then xs else ys)
subs_if true xs ys h k = h
subs_if false xs ys h k = k

subs_filter : (t : Address × ℕ × Address → Bool) (rows : List (Address × ℕ × Address)) → AreSubs rows → AreSubs (filter t rows)
subs_filter t rows h = record { ranges = all_filter IsSubRow t rows h.ranges; distinct = distinct_filter same_sub sub_symmetric t rows h.distinct }

subs_built : (op : ℕ) (element : Address) (model : ℕ) (address : Address) (rows : List (Address × ℕ × Address)) → IsInRange (R.Subscribe op element model address) → AreSubs rows
    → AreSubs (subs_after op element model address rows)
subs_built op element model address rows r h =
    let x : Address × ℕ × Address = (element, model, address) in
    let one : IsSubRow x = (omega arith, omega arith, r.2, r.3, r.4) in
    let own : Address × ℕ × Address → Bool = λ s. s.0.0 == element.0 && s.1 == model in
    let rest : AreSubs (filter (λ s. not (own s)) rows) = subs_filter (λ s. not (own s)) rows h in
    subs_if (op == 1) _ _
    (record { ranges = all_pushed IsSubRow (list_any (same_sub x) rows) rows x h.ranges one; distinct = distinct_pushed same_sub sub_symmetric rows x h.distinct })
    (subs_if (op == 2) _ _ (subs_filter _ rows h)
    (subs_if (op == 3) _ _ rest
    (subs_if (op == 4) _ _
    (record {
      ranges = all_push IsSubRow (filter (λ s. not (own s)) rows) x rest.ranges one;
      distinct = distinct_push same_sub sub_symmetric (filter (λ s. not (own s)) rows) x rest.distinct
          (any_without (same_sub x) own (λ s e. and_none (own s) (s.2.0 == address.0) e) rows);
    })
    h)))

labels_if : (b : Bool) (xs ys : List (Address × ℕ × List ℕ)) → AreLabels xs → AreLabels ys → AreLabels (if b then xs else ys)
labels_if true xs ys h k = h
labels_if false xs ys h k = k

labels_filter : (t : Address × ℕ × List ℕ → Bool) (rows : List (Address × ℕ × List ℕ)) → AreLabels rows → AreLabels (filter t rows)
labels_filter t rows h = record { ranges = all_filter IsLabelRow t rows h.ranges; distinct = distinct_filter same_label label_symmetric t rows h.distinct }

labels_built : (op : ℕ) (element : Address) (model : ℕ) (label : List ℕ) (rows : List (Address × ℕ × List ℕ)) → IsInRange (R.Label op element model label) → AreLabels rows
    → AreLabels (labels_after op element model label rows)
labels_built op element model label rows r h =
    let x : Address × ℕ × List ℕ = (element, model, label) in
    let one : IsLabelRow x = (refl, r.1, r.2, r.3) in
    let own : Address × ℕ × List ℕ → Bool = λ l. l.0.0 == element.0 && l.1 == model in
    let rest : AreLabels (filter (λ l. not (own l)) rows) = labels_filter (λ l. not (own l)) rows h in
    labels_if (op == 1) _ _
    (record { ranges = all_pushed IsLabelRow (list_any (same_label x) rows) rows x h.ranges one; distinct = distinct_pushed same_label label_symmetric rows x h.distinct })
    (labels_if (op == 2) _ _ (labels_filter _ rows h)
    (labels_if (op == 4) _ _
    (record {
      ranges = all_push IsLabelRow (filter (λ l. not (own l)) rows) x rest.ranges one;
      distinct = distinct_push same_label label_symmetric (filter (λ l. not (own l)) rows) x rest.distinct
          (any_without (same_label x) own (λ l e. and_none (own l) (bytes_eq l.2 label) e) rows);
    })
    h))

-- Publications.
abbrev pub IsPublishRow : PublishRow → Type 0
IsPublishRow row = IsInRange (R.Publish row)

-- Features.
pub record AreFeatures (beacon ttl friend relay retransmit transmit : ℕ) : Type 0 where
  pub beacon_is : IsTrue (is_feature 1 beacon)
  pub ttl_is : IsTrue (is_feature 2 ttl)
  pub friend_is : IsTrue (is_feature 3 friend)
  pub relay_is : IsTrue (is_feature 4 (relay * 256 + retransmit))
  pub retransmit_is : retransmit < 256
  pub transmit_is : IsTrue (is_feature 5 transmit)

feature_kept : (n which value old : ℕ) → IsTrue (is_feature which value) → IsTrue (is_feature n old) → IsTrue (is_feature n (if which == n then value else old))
feature_kept n which value old r h = by_test (which == n) refl
  where
    by_test : (b : Bool) → which == n ≡ b → IsTrue (is_feature n (if b then value else old))
    by_test true e = subst (λ m. IsTrue (is_feature m value)) (eqb-true which n e) r
    by_test false e = h

relay_kept : (which value relay retransmit : ℕ) → IsTrue (is_feature which value) → IsTrue (is_feature 4 (relay * 256 + retransmit))
    → IsTrue (is_feature 4 ((if which == 4 then value / 256 else relay) * 256 + (if which == 4 then value % 256 else retransmit)))
relay_kept which value relay retransmit r h = by_test (which == 4) refl
  where
    whole : value ≡ value / 256 * 256 + value % 256
    whole = omega arith

    by_test : (b : Bool) → which == 4 ≡ b → IsTrue (is_feature 4 ((if b then value / 256 else relay) * 256 + (if b then value % 256 else retransmit)))
    by_test true e = subst (λ v. IsTrue (is_feature 4 v)) whole (subst (λ m. IsTrue (is_feature m value)) (eqb-true which 4 e) r)
    by_test false e = h

low_kept : (b : Bool) (value old : ℕ) → old < 256 → (if b then value % 256 else old) < 256
low_kept true value old h = omega arith
low_kept false value old h = h

-- Kept values.
pub record AreKept (onoffs levels : List ℕ) : Type 0 where
  pub four : length onoffs ≡ 4
  pub bits : AllByRecursion (λ v. v < 2) onoffs
  pub places : length levels ≡ 4
  pub words : AllByRecursion (λ v. v < 2 ^ 16) levels

model_kept : (element model value : ℕ) (onoffs levels : List ℕ) → IsInRange (R.Model element model value) → AreKept onoffs levels
    → AreKept (if model == 0x1000 then slice_set onoffs element value else onoffs) (if model == 0x1002 then slice_set levels element value else levels)
model_kept element model value onoffs levels r h = by_tests (model == 0x1000) (model == 0x1002) refl refl
  where
    bit : ((model ≡ 0x1000) × (value < 2)) ⊎ ((model ≡ 0x1002) × (value < 2 ^ 16)) → model == 0x1000 ≡ true → value < 2
    bit (inl k) e = k.1
    bit (inr k) e = absurd (omega (arith, eqb-true model 0x1000 e, k.0))

    word : ((model ≡ 0x1000) × (value < 2)) ⊎ ((model ≡ 0x1002) × (value < 2 ^ 16)) → value < 2 ^ 16
    word (inl k) = omega (arith, k.1)
    word (inr k) = k.1

    by_tests : (b c : Bool) → model == 0x1000 ≡ b → model == 0x1002 ≡ c → AreKept (if b then slice_set onoffs element value else onoffs) (if c then slice_set levels element value else levels)
    by_tests true true e f = absurd (omega (arith, eqb-true model 0x1000 e, eqb-true model 0x1002 f))
    by_tests true false e f = record {
      four = length-set onoffs element value ∙ h.four;
      bits = all_set (λ v. v < 2) onoffs element value h.bits (bit r.1 e);
      places = h.places;
      words = h.words;
    }
    by_tests false true e f = record {
      four = h.four;
      bits = h.bits;
      places = length-set levels element value ∙ h.places;
      words = all_set (λ v. v < 2 ^ 16) levels element value h.words (word r.1);
    }
    by_tests false false e f = h

-- Identity.
abbrev pub identity : Address → ℕ → List ℕ → Address × ℕ × List ℕ
identity unicast elements dev_key = (unicast, elements, dev_key)

abbrev pub HasIdentity : Address → ℕ → List ℕ → Type 0
HasIdentity unicast elements dev_key = (identity unicast elements dev_key ≡ identity (record { 0 = 0 }) 0 (replicate 16 0)) ⊎ IsInRange (R.Identity unicast elements dev_key)

-- The whole.
pub record IsBuilt (c : Config) : Type 0 where
  pub identity_is : HasIdentity c.unicast c.elements c.dev_key
  pub nets : AllByRecursion IsNetRow c.nets
  pub apps : AllByRecursion IsAppRow c.apps
  pub binds : AreBinds c.binds
  pub subs : AreSubs c.subs
  pub labels : AreLabels c.labels
  pub publications : AllByRecursion IsPublishRow c.publications
  pub features : AreFeatures c.beacon c.ttl c.friend c.relay c.retransmit c.transmit
  pub kept : AreKept c.onoffs c.levels

-- a config with parts that are built
from_parts : (d : Config) → HasIdentity d.unicast d.elements d.dev_key → AllByRecursion IsNetRow d.nets → AllByRecursion IsAppRow d.apps → AreBinds d.binds → AreSubs d.subs → AreLabels d.labels
    → AllByRecursion IsPublishRow d.publications → AreFeatures d.beacon d.ttl d.friend d.relay d.retransmit d.transmit → AreKept d.onoffs d.levels → IsBuilt d
from_parts d i n a b s l p f k = record { identity_is = i; nets = n; apps = a; binds = b; subs = s; labels = l; publications = p; features = f; kept = k }

none_built : IsBuilt no_config
none_built = record {
  identity_is = inl refl;
  nets = tt;
  apps = tt;
  binds = record { ranges = tt; distinct = tt };
  subs = record { ranges = tt; distinct = tt };
  labels = record { ranges = tt; distinct = tt };
  publications = tt;
  features = record { beacon_is = refl; ttl_is = refl; friend_is = refl; relay_is = refl; retransmit_is = lit< tt; transmit_is = refl };
  kept = record { four = refl; bits = (lit< tt, (lit< tt, (lit< tt, (lit< tt, tt)))); places = refl; words = (lit< tt, (lit< tt, (lit< tt, (lit< tt, tt)))) };
}

built_more : (c : Config) (item : StoreRecord) → IsInRange item → IsBuilt c → IsBuilt (changed c item)
unfolding changed
built_more c (R.Identity unicast elements dev_key) r b = from_parts _ (inr r) b.nets b.apps b.binds b.subs b.labels b.publications b.features b.kept
built_more c (R.Numbers current progress mark hours since) r b = from_parts _ b.identity_is b.nets b.apps b.binds b.subs b.labels b.publications b.features b.kept
built_more c (R.Hour hours since) r b = from_parts _ b.identity_is b.nets b.apps b.binds b.subs b.labels b.publications b.features b.kept
built_more c (R.Replay first second) r b = b
built_more c (R.NetKey op index key) r b =
    from_parts _ b.identity_is (nets_built op index key c.nets r b.nets) (apps_built_net op index c.apps b.apps)
    (binds_if (op == 5) _ _ (binds_filter _ c.binds b.binds) b.binds) b.subs b.labels
    (all_if IsPublishRow (op == 5) _ _ (all_filter IsPublishRow _ c.publications b.publications) b.publications) b.features b.kept
built_more c (R.AppKey op net index key) r b =
    from_parts _ b.identity_is b.nets (apps_built op net index key c.apps r b.apps)
    (binds_if (op == 3) _ _ (binds_filter _ c.binds b.binds) b.binds) b.subs b.labels
    (all_if IsPublishRow (op == 3) _ _ (all_filter IsPublishRow _ c.publications b.publications) b.publications) b.features b.kept
built_more c (R.Bind op element model app) r b =
    from_parts _ b.identity_is b.nets b.apps (binds_built op element model app c.binds r b.binds) b.subs b.labels b.publications b.features b.kept
built_more c (R.Subscribe op element model address) r b =
    from_parts _ b.identity_is b.nets b.apps b.binds (subs_built op element model address c.subs r b.subs)
    (labels_if (op == 3 || op == 4) _ _ (labels_filter _ c.labels b.labels) b.labels) b.publications b.features b.kept
built_more c (R.Feature which value) r b =
    from_parts _ b.identity_is b.nets b.apps b.binds b.subs b.labels b.publications
    (record {
      beacon_is = feature_kept 1 which value c.beacon r b.features.beacon_is;
      ttl_is = feature_kept 2 which value c.ttl r b.features.ttl_is;
      friend_is = feature_kept 3 which value c.friend r b.features.friend_is;
      relay_is = relay_kept which value c.relay c.retransmit r b.features.relay_is;
      retransmit_is = low_kept (which == 4) value c.retransmit b.features.retransmit_is;
      transmit_is = feature_kept 5 which value c.transmit r b.features.transmit_is;
    })
    b.kept
built_more c R.Reset r b = from_parts _ b.identity_is b.nets b.apps b.binds b.subs b.labels b.publications b.features b.kept
built_more c (R.Model element model value) r b =
    from_parts _ b.identity_is b.nets b.apps b.binds b.subs b.labels b.publications b.features (model_kept element model value c.onoffs c.levels r b.kept)
built_more c (R.Label op element model label) r b =
    from_parts _ b.identity_is b.nets b.apps b.binds (subs_if (op == 4) _ _ (subs_filter _ c.subs b.subs) b.subs)
    (labels_built op element model label c.labels r b.labels) b.publications b.features b.kept
built_more c (R.Publish row) r b =
    from_parts _ b.identity_is b.nets b.apps b.binds b.subs b.labels (all_put IsPublishRow publication_index row c.publications r b.publications) b.features b.kept

built_all : (c : Config) (records : List StoreRecord) → All IsInRange records → IsBuilt c → IsBuilt (fold changed c records)
built_all c [] r b = b
built_all c (item ∷ records) r b = built_all (changed c item) records (All-tail IsInRange item records r) (built_more c item (All-head IsInRange item records r) b)

pub built_of : (records : List StoreRecord) → All IsInRange records → IsBuilt (config_of records)
built_of records r = built_all no_config records r none_built
