-- What a record of a configuration message is: a change, and in a sound node in range, within the limits, and one that keeps it whole.
use Rattle.std.proofs.Common.{◌≡◌, ℕ, suc, ◌+◌, ◌*◌, ◌/◌, ◌%◌, ◌^◌, ◌<◌, ◌≤◌, Bool, true, false, cond, not, ◌&&◌, ◌||◌, eqb, ltb, leb, List, [], ◌∷◌, ◌++◌, length, filter, find, replicate, refl, subst, ap, ◌∙◌, arith, Some, None, is_some, length-append}
use Rattle.std.specs.Bool.{⊤}
use Rattle.std.specs.List.{AllByRecursion as Every, list_any}
use Rattle.std.proofs.lemmas.Bool.Decides.{nat_tests}
use Rattle.std.proofs.lemmas.List.{length-map}
use Rattle.std.proofs.lemmas.List.Elements.{All-from_recursion, recursion_from_All}
use Rattle.config_definitions.specs.Keys.{has_net, phase_of}
use Rattle.config_definitions.specs.Models.{is_full, is_full_of_others}
use Rattle.config_definitions.specs.Publishing.{is_model_row}
use Rattle.layer_definitions.specs.KeyRefresh.{app_index, net_index, net_row}
use Rattle.layer_definitions.specs.Order.{put_by}
use Rattle.mesh_base.specs.declared.address.Address.{Address}
use Rattle.mesh_base.specs.declared.keys.AppKeyRow.{AppKeyRow}
use Rattle.mesh_base.specs.declared.keys.NetKeyRow.{NetKeyRow}
use Rattle.node_limits.specs.declared.TheConstants.{APPLICATION_KEYS, BINDINGS, GROUP_SUBSCRIPTIONS, LABEL_SUBSCRIPTIONS, NETWORK_KEYS, PUBLICATIONS, SUBSCRIPTIONS}
use Rattle.node_records.proofs.Rising.{Rises, RisesFrom}
use Rattle.record_types.specs.declared.records.PublishRow.{PublishRow}
use Rattle.record_types.specs.declared.records.StoreRecord.{StoreRecord}
use Rattle.record_types.specs.declared.records.StoreRecord.TheVariants as R
use Rattle.event_definitions.specs.Safe.{IsChange}
use Rattle.store_definitions.specs.Config.{Config, apps_after, binds_after, is_bind, is_label, is_sub, labels_after, labels_without, nets_after, publication_index, subs_after, subs_without}
use Rattle.store_definitions.specs.Node.{HasNext, IsPhased, IsWhole, KeepsWhole, has_other_net}
use Rattle.store_definitions.specs.Ranges.{IsInRange, IsKey}
use Rattle.layer_laws.proofs.Friends.{every_found}
use Rattle.layer_laws.proofs.Lists.{Inside, and_true, when}

-- A node that is whole, with its tables in order and within their limits.
pub record Sound (c : Config) : Type 0 where
  pub whole : IsWhole c
  pub nets_rise : Rises net_index c.nets
  pub publications_rise : Rises publication_index c.publications
  pub nets : length c.nets ≤ NETWORK_KEYS
  pub apps : length c.apps ≤ APPLICATION_KEYS
  pub binds : length c.binds ≤ BINDINGS
  pub subs : length c.subs ≤ GROUP_SUBSCRIPTIONS
  pub labels : length c.labels ≤ LABEL_SUBSCRIPTIONS

-- the limits of a record that is a change
abbrev pub IsWithin : Config → StoreRecord → Type 0
IsWithin c (R.NetKey op index key) = length (nets_after op index key c.nets) ≤ NETWORK_KEYS
IsWithin c (R.AppKey op net index key) = length (apps_after op net index key c.apps) ≤ APPLICATION_KEYS
IsWithin c (R.Bind op element model app) = length (binds_after op element model app c.binds) ≤ BINDINGS
IsWithin c (R.Subscribe op element model address) = length (subs_after op element model address c.subs) ≤ GROUP_SUBSCRIPTIONS
IsWithin c (R.Label op element model label) = length (labels_after op element model label c.labels) ≤ LABEL_SUBSCRIPTIONS
IsWithin c (R.Publish row) = length (put_by publication_index row c.publications) ≤ PUBLICATIONS
IsWithin c _ = ⊤

pub record Fits (c : Config) (item : StoreRecord) : Type 0 where
  pub range : IsInRange item
  pub within : IsWithin c item
  pub keeps : KeepsWhole c item

-- a change, which fits a sound node where `O` holds, as that a payload is of octets
pub record Leaf (c : Config) (O : Type 0) (item : StoreRecord) : Type 0 where
  pub change : IsChange item
  pub fits : Sound c → O → Fits c item

-- Lengths.

pub filter_shorter : {A : Type 0} (test : A → Bool) (xs : List A) → length (filter test xs) ≤ length xs
filter_shorter test [] = omega arith
filter_shorter test (x ∷ xs) = when _ (test x) (λ e. rw e (omega (arith, filter_shorter test xs))) (λ e. rw e (omega (arith, filter_shorter test xs)))

pub put_longer : {A : Type 0} (index : A → ℕ) (r : A) (xs : List A) → length (put_by index r xs) ≤ suc (length xs)
put_longer index r [] = omega arith
put_longer index r (x ∷ xs) =
    when _ (ltb (index r) (index x)) (λ e. rw e (omega arith))
    (λ e. rw e (when _ (eqb (index r) (index x)) (λ f. rw f (omega arith)) (λ f. rw f (omega (arith, put_longer index r xs)))))

pub push_longer : {A : Type 0} (b : Bool) (x : A) (xs : List A) → length (cond b xs (xs ++ x ∷ [])) ≤ suc (length xs)
push_longer true x xs = omega arith
push_longer false x xs = omega (arith, length-append xs (x ∷ []))

-- Rows that rise: one of each index.

above : (P : NetKeyRow → Type 0) (index n : ℕ) (nets : List NetKeyRow) → index < n → RisesFrom net_index n nets → Every (λ r. r.index ≡ index → P r) nets
above P index n [] l h = tt
above P index n (r ∷ rest) l h = (λ e. absurd (omega (arith, h.0, l, e)), above P index (suc r.index) rest (omega (arith, h.0, l)) h.1)

found_is_all : (P : NetKeyRow → Type 0) (index n : ℕ) (nets : List NetKeyRow) → RisesFrom net_index n nets
    → ((r : NetKeyRow) → find (λ (x : NetKeyRow). eqb x.index index) nets ≡ Some r → P r) → Every (λ r. r.index ≡ index → P r) nets
found_is_all P index n [] h k = tt
found_is_all P index n (r ∷ rest) h k =
    when _ (eqb r.index index)
    (λ e. let same : r.index ≡ index = grind (arith, nat_tests, e) in (λ f. k r (rw e refl), above P index (suc r.index) rest (omega (arith, same)) h.1))
    (λ e. (λ f. absurd (grind (arith, nat_tests, e, f)), found_is_all P index (suc r.index) rest h.1 (λ s f. k s (rw e f))))

-- of two rows one has another index
other_of_two : (index n : ℕ) (nets : List NetKeyRow) → RisesFrom net_index n nets → 2 ≤ length nets → has_other_net nets index ≡ true
other_of_two index n [] h l = absurd (omega (arith, l))
other_of_two index n (r ∷ []) h l = absurd (omega (arith, l))
other_of_two index n (r ∷ s ∷ rest) h l =
    when _ (eqb r.index index)
    (λ e. let other : eqb s.index index ≡ false = grind (arith, nat_tests, e, h.1.0) in rw (e, other) refl)
    (λ e. rw e refl)

-- A row takes the place of the one of its model: so there is one more than those of other models, at most.

other_index : (row r : PublishRow) → publication_index row < publication_index r → is_model_row row.element row.model r ≡ false
other_index row r l = when _ (is_model_row row.element row.model r) (λ e. absurd (same_index row r e l)) (λ e. e)
  where
    same_index : (row r : PublishRow) → is_model_row row.element row.model r ≡ true → publication_index row < publication_index r → ⊥
    same_index row r e l = let both : (eqb r.element.0 row.element.0 ≡ true) × (eqb r.model row.model ≡ true) = and_true (eqb r.element.0 row.element.0) (eqb r.model row.model) e in grind (arith, nat_tests, both.0, both.1, l)

other_index_below : (row r : PublishRow) → publication_index r < publication_index row → is_model_row row.element row.model r ≡ false
other_index_below row r l = when _ (is_model_row row.element row.model r) (λ e. absurd (same_index row r e l)) (λ e. e)
  where
    same_index : (row r : PublishRow) → is_model_row row.element row.model r ≡ true → publication_index r < publication_index row → ⊥
    same_index row r e l = let both : (eqb r.element.0 row.element.0 ≡ true) × (eqb r.model row.model ≡ true) = and_true (eqb r.element.0 row.element.0) (eqb r.model row.model) e in grind (arith, nat_tests, both.0, both.1, l)

-- rows above this one are all of other models
all_others : (row : PublishRow) (n : ℕ) (rows : List PublishRow) → publication_index row < n → RisesFrom publication_index n rows
    → filter (λ r. not (is_model_row row.element row.model r)) rows ≡ rows
all_others row n [] l h = refl
all_others row n (r ∷ rest) l h =
    rw (other_index row r (omega (arith, l, h.0))) (ap (λ xs. r ∷ xs) (all_others row (suc (publication_index r)) rest (omega (arith, l, h.0)) h.1))

put_among_others : (row : PublishRow) (n : ℕ) (rows : List PublishRow) → RisesFrom publication_index n rows
    → length (put_by publication_index row rows) ≤ suc (length (filter (λ r. not (is_model_row row.element row.model r)) rows))
put_among_others row n [] h = omega arith
put_among_others row n (r ∷ rest) h =
    when _ (ltb (publication_index row) (publication_index r))
    (λ e. rw e (let low : publication_index row < publication_index r = grind (arith, nat_tests, e) in
    let all : filter (λ r. not (is_model_row row.element row.model r)) (r ∷ rest) ≡ r ∷ rest = all_others row (publication_index r) (r ∷ rest) low (omega arith, h.1) in
    rw all (omega arith)))
    (λ e. rw e (when _ (eqb (publication_index row) (publication_index r))
    (λ f. rw f (let same : publication_index row ≡ publication_index r = grind (arith, nat_tests, f) in
    let all : filter (λ r. not (is_model_row row.element row.model r)) rest ≡ rest = all_others row (suc (publication_index r)) rest (omega (arith, same)) h.1 in
    when _ (is_model_row row.element row.model r) (λ g. rw (g, all) (omega arith)) (λ g. rw (g, all) (omega arith))))
    (λ f. rw f (let high : publication_index r < publication_index row = grind (arith, nat_tests, e, f) in
    rw (other_index_below row r high) (omega (arith, put_among_others row (suc (publication_index r)) rest h.1))))))

-- Network keys.
module _ (c : Config) (O : Type 0) where
  pub net_add_leaf : (index : ℕ) (key : List ℕ) → index ≤ 0xfff → (O → IsKey key) → leb NETWORK_KEYS (length c.nets) ≡ false → Leaf c O (R.NetKey 1 index key)
  net_add_leaf index key small is full = record {
    change = tt;
    fits = λ s o. record {
      range = (omega arith, omega arith, small, is o);
      within = omega (arith, put_longer net_index (record { index = index; phase = 0; key = key; next = None }) c.nets, (let room : length c.nets < NETWORK_KEYS = grind (arith, nat_tests, full) in room));
      keeps = (λ e. absurd (omega (arith, e)), λ e. absurd (omega (arith, e)));
    };
  }

  pub net_update_leaf : (index : ℕ) (key : List ℕ) → index ≤ 0xfff → (O → IsKey key) → Leaf c O (R.NetKey 2 index key)
  net_update_leaf index key small is = record {
    change = tt;
    fits = λ s o. record {
      range = (omega arith, omega arith, small, is o);
      within = rw length-map s.nets;
      keeps = (λ e. absurd (omega (arith, e)), λ e. absurd (omega (arith, e)));
    };
  }

  phase_is : (index : ℕ) (r : NetKeyRow) → net_row c.nets index ≡ Some r → phase_of c index ≡ r.phase
  phase_is index r e = rw e refl

  row_in : (index : ℕ) (r : NetKeyRow) → Every IsPhased c.nets → net_row c.nets index ≡ Some r → IsPhased r
  row_in index r h e = subst (Inside IsPhased) e (every_found IsPhased _ c.nets h)

  pub phase_two_leaf : (index : ℕ) → index ≤ 0xfff → eqb (phase_of c index) 0 ≡ false → eqb (phase_of c index) 2 ≡ false → Leaf c O (R.NetKey 3 index (replicate 16 0))
  phase_two_leaf index small not_zero not_two = record {
    change = tt;
    fits = λ s o. record {
      range = (omega arith, omega arith, small, refl);
      within = rw length-map s.nets;
      keeps = (λ e. All-from_recursion (HasNext index) c.nets (found_is_all (λ r. is_some r.next ≡ true) index 0 c.nets s.nets_rise (λ r f. has_next r f s)), λ e. absurd (omega (arith, e)));
    };
  }
    where
      has_next : (r : NetKeyRow) → net_row c.nets index ≡ Some r → Sound c → is_some r.next ≡ true
      has_next r f s =
          let phased : IsPhased r = row_in index r (recursion_from_All IsPhased c.nets s.whole.phased) f in
          phased.next ∙ grind (arith, nat_tests, not_zero, not_two, phase_is index r f, phased.phase)

  pub phase_end_leaf : (index : ℕ) → index ≤ 0xfff → Leaf c O (R.NetKey 4 index (replicate 16 0))
  phase_end_leaf index small = record {
    change = tt;
    fits = λ s o. record {
      range = (omega arith, omega arith, small, refl);
      within = rw length-map s.nets;
      keeps = (λ e. absurd (omega (arith, e)), λ e. absurd (omega (arith, e)));
    };
  }

  two_of : (b : Bool) (n : ℕ) → (b || leb n 1) ≡ false → 2 ≤ n
  two_of true n e = absurd cc
  two_of false n e = grind (arith, nat_tests, e)

  pub net_delete_leaf : (index under : ℕ) → index ≤ 0xfff → (eqb index under || leb (length c.nets) 1) ≡ false → Leaf c O (R.NetKey 5 index (replicate 16 0))
  net_delete_leaf index under small kept = record {
    change = tt;
    fits = λ s o. record {
      range = (omega arith, omega arith, small, refl);
      within = omega (arith, filter_shorter (λ (r : NetKeyRow). not (eqb r.index index)) c.nets, s.nets);
      keeps = (λ e. absurd (omega (arith, e)), λ e. other_of_two index 0 c.nets s.nets_rise (two_of (eqb index under) (length c.nets) kept));
    };
  }

  -- Application keys.

  pub app_add_leaf : (net index : ℕ) (key : List ℕ) → (O → net ≤ 0xfff) → (O → index ≤ 0xfff) → (O → IsKey key)
      → not (has_net c net) ≡ false → leb APPLICATION_KEYS (length c.apps) ≡ false → Leaf c O (R.AppKey 1 net index key)
  app_add_leaf net index key net_small index_small is held full = record {
    change = tt;
    fits = λ s o. record {
      range = (omega arith, omega arith, net_small o, index_small o, is o);
      within = omega (arith, put_longer app_index (record { net = net; index = index; key = key; next = None }) c.apps, (let room : length c.apps < APPLICATION_KEYS = grind (arith, nat_tests, full) in room));
      keeps = λ e. not_not (has_net c net) held;
    };
  }
    where
      not_not : (b : Bool) → not b ≡ false → b ≡ true
      not_not true e = refl
      not_not false e = cc

  pub app_update_leaf : (net index : ℕ) (key : List ℕ) → (O → net ≤ 0xfff) → (O → index ≤ 0xfff) → (O → IsKey key) → Leaf c O (R.AppKey 2 net index key)
  app_update_leaf net index key net_small index_small is = record {
    change = tt;
    fits = λ s o. record {
      range = (omega arith, omega arith, net_small o, index_small o, is o);
      within = rw length-map s.apps;
      keeps = λ e. absurd (omega (arith, e));
    };
  }

  pub app_delete_leaf : (net index : ℕ) → (O → net ≤ 0xfff) → (O → index ≤ 0xfff) → Leaf c O (R.AppKey 3 net index (replicate 16 0))
  app_delete_leaf net index net_small index_small = record {
    change = tt;
    fits = λ s o. record {
      range = (omega arith, omega arith, net_small o, index_small o, refl);
      within = omega (arith, filter_shorter (λ (r : AppKeyRow). not (eqb r.index index)) c.apps, s.apps);
      keeps = λ e. absurd (omega (arith, e));
    };
  }

  -- Bindings and subscriptions.

  pub bind_leaf : (element : Address) (model app : ℕ) → (O → element.0 < 2 ^ 16) → model < 2 ^ 16 → app ≤ 0xfff → leb BINDINGS (length c.binds) ≡ false → Leaf c O (R.Bind 1 element model app)
  bind_leaf element model app element_small model_small app_small full = record {
    change = tt;
    fits = λ s o. record {
      range = (omega arith, omega arith, element_small o, model_small, app_small);
      within = omega (arith, push_longer (list_any (is_bind element model app) c.binds) (element, model, app) c.binds, (let room : length c.binds < BINDINGS = grind (arith, nat_tests, full) in room));
      keeps = tt;
    };
  }

  pub unbind_leaf : (element : Address) (model app : ℕ) → (O → element.0 < 2 ^ 16) → model < 2 ^ 16 → app ≤ 0xfff → Leaf c O (R.Bind 2 element model app)
  unbind_leaf element model app element_small model_small app_small = record {
    change = tt;
    fits = λ s o. record {
      range = (omega arith, omega arith, element_small o, model_small, app_small);
      within = omega (arith, filter_shorter (λ b. not (is_bind element model app b)) c.binds, s.binds);
      keeps = tt;
    };
  }

  room_for_one : (a b : ℕ) → leb SUBSCRIPTIONS (a + b) ≡ false → (a < SUBSCRIPTIONS) × (b < SUBSCRIPTIONS)
  room_for_one a b e = (grind (arith, nat_tests, e), grind (arith, nat_tests, e))

  pub subscribe_leaf : (element : Address) (model : ℕ) (group : Address) → (O → element.0 < 2 ^ 16) → model < 2 ^ 16 → (O → group.0 < 2 ^ 16)
      → is_full c.subs c.labels ≡ false → Leaf c O (R.Subscribe 1 element model group)
  subscribe_leaf element model group element_small model_small group_small full = record {
    change = tt;
    fits = λ s o. record {
      range = (omega arith, omega arith, element_small o, model_small, group_small o);
      within = omega (arith, push_longer (list_any (is_sub element model group) c.subs) (element, model, group) c.subs, (room_for_one (length c.subs) (length c.labels) full).0);
      keeps = tt;
    };
  }

  pub unsubscribe_leaf : (element : Address) (model : ℕ) (group : Address) → (O → element.0 < 2 ^ 16) → model < 2 ^ 16 → (O → group.0 < 2 ^ 16) → Leaf c O (R.Subscribe 2 element model group)
  unsubscribe_leaf element model group element_small model_small group_small = record {
    change = tt;
    fits = λ s o. record {
      range = (omega arith, omega arith, element_small o, model_small, group_small o);
      within = omega (arith, filter_shorter (λ x. not (is_sub element model group x)) c.subs, s.subs);
      keeps = tt;
    };
  }

  pub none_leaf : (element : Address) (model : ℕ) → (O → element.0 < 2 ^ 16) → model < 2 ^ 16 → Leaf c O (R.Subscribe 3 element model (record { 0 = 0 }))
  none_leaf element model element_small model_small = record {
    change = tt;
    fits = λ s o. record {
      range = (omega arith, omega arith, element_small o, model_small, omega arith);
      within = omega (arith, filter_shorter (λ (x : Address × ℕ × Address). not (eqb x.0.0 element.0 && eqb x.1 model)) c.subs, s.subs);
      keeps = tt;
    };
  }

  pub overwrite_leaf : (element : Address) (model : ℕ) (group : Address) → (O → element.0 < 2 ^ 16) → model < 2 ^ 16 → (O → group.0 < 2 ^ 16)
      → is_full_of_others c element model ≡ false → Leaf c O (R.Subscribe 4 element model group)
  overwrite_leaf element model group element_small model_small group_small full = record {
    change = tt;
    fits = λ s o. record {
      range = (omega arith, omega arith, element_small o, model_small, group_small o);
      within = omega (arith, length-append (subs_without element model c.subs) ((element, model, group) ∷ []), (room_for_one (length (subs_without element model c.subs)) (length (labels_without element model c.labels)) full).0);
      keeps = tt;
    };
  }

  pub label_leaf : (element : Address) (model : ℕ) (label : List ℕ) → (O → element.0 < 2 ^ 16) → model < 2 ^ 16 → (O → IsKey label)
      → is_full c.subs c.labels ≡ false → Leaf c O (R.Label 1 element model label)
  label_leaf element model label element_small model_small is full = record {
    change = tt;
    fits = λ s o. record {
      range = (refl, element_small o, model_small, is o);
      within = omega (arith, push_longer (list_any (is_label element model label) c.labels) (element, model, label) c.labels, (room_for_one (length c.subs) (length c.labels) full).1);
      keeps = tt;
    };
  }

  pub unlabel_leaf : (element : Address) (model : ℕ) (label : List ℕ) → (O → element.0 < 2 ^ 16) → model < 2 ^ 16 → (O → IsKey label) → Leaf c O (R.Label 2 element model label)
  unlabel_leaf element model label element_small model_small is = record {
    change = tt;
    fits = λ s o. record {
      range = (refl, element_small o, model_small, is o);
      within = omega (arith, filter_shorter (λ x. not (is_label element model label x)) c.labels, s.labels);
      keeps = tt;
    };
  }

  pub label_overwrite_leaf : (element : Address) (model : ℕ) (label : List ℕ) → (O → element.0 < 2 ^ 16) → model < 2 ^ 16 → (O → IsKey label)
      → is_full_of_others c element model ≡ false → Leaf c O (R.Label 4 element model label)
  label_overwrite_leaf element model label element_small model_small is full = record {
    change = tt;
    fits = λ s o. record {
      range = (refl, element_small o, model_small, is o);
      within = omega (arith, length-append (labels_without element model c.labels) ((element, model, label) ∷ []), (room_for_one (length (subs_without element model c.subs)) (length (labels_without element model c.labels)) full).1);
      keeps = tt;
    };
  }

  -- Features, a Node Reset, and publications.

  pub feature_leaf : (which value : ℕ) → (O → IsInRange (R.Feature which value)) → Leaf c O (R.Feature which value)
  feature_leaf which value is = record { change = tt; fits = λ s o. record { range = is o; within = tt; keeps = tt } }

  pub reset_leaf : Leaf c O R.Reset
  reset_leaf = record { change = tt; fits = λ s o. record { range = tt; within = tt; keeps = tt } }

  pub publish_leaf : (row : PublishRow) → (O → IsInRange (R.Publish row)) → leb PUBLICATIONS (length (filter (λ r. not (is_model_row row.element row.model r)) c.publications)) ≡ false → Leaf c O (R.Publish row)
  publish_leaf row is full = record {
    change = tt;
    fits = λ s o. record {
      range = is o;
      within = omega (arith, put_among_others row 0 c.publications s.publications_rise, (let room : length (filter (λ r. not (is_model_row row.element row.model r)) c.publications) < PUBLICATIONS = grind (arith, nat_tests, full) in room));
      keeps = tt;
    };
  }
