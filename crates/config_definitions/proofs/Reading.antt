-- The fields of each message that is read: the values that are prohibited aren't read, and numbers are within their widths where the payload is
-- of octets.
use Rattle.std.proofs.Common.{◌≡◌, ℕ, zero, suc, ◌+◌, ◌*◌, ◌/◌, ◌%◌, ◌^◌, ◌<◌, ◌≤◌, Bool, true, false, cond, ◌&&◌, ◌||◌, eqb, leb, List, [], ◌∷◌, length, take, drop, refl, arith, Option, Some, None, length-take}
use Rattle.std.specs.List.{AllByRecursion as Every}
use Rattle.std.specs.Option.{option_map}
use Rattle.std.specs.Prelude.{IsTrue, fold}
use Rattle.std.proofs.lemmas.Bool.Decides.{nat_tests}
use Rattle.std.proofs.lemmas.List.Elements.{All-from_recursion}
use Rattle.config_definitions.proofs.Cases.{Inside, when}
use Rattle.config_definitions.proofs.Leaves.{AreIndexes, IsAppKey, IsBinding, IsGroup, IsHolder, IsLabelled, IsNetKey, IsOctet, IsPublication, IsRead}
use Rattle.config_definitions.specs.Messages.{address_in, any_octet, app_key_in, binding_in, config_message, default_ttl_in, element_model_in, group_in, heartbeat_in, holder_in, indexes_in, is_default_ttl, is_heartbeat, is_publish_ttl, key_in, label_in, message_of, model_in, net_in, net_key_in, octet_in, publication_in, relay_in, switch_in, transition_in, without}
use Rattle.config_definitions.specs.Params.{address_of, index_of, number_of}
use Rattle.config_definitions.specs.declared.messages.AppKeyIndexes.{AppKeyIndexes}
use Rattle.config_definitions.specs.declared.messages.ConfigMessage.{ConfigMessage}
use Rattle.config_definitions.specs.declared.messages.ConfigMessage.TheVariants as M
use Rattle.config_definitions.specs.declared.messages.ElementModel.{ElementModel}
use Rattle.config_definitions.specs.declared.messages.ModelId.{ModelId}
use Rattle.config_definitions.specs.declared.messages.RelayValue.{RelayValue}
use Rattle.model_states.specs.Access.{has_no_opcode, opcode_in, opcode_size}
use Rattle.model_states.specs.declared.publication.HeartbeatRow.{HeartbeatRow}
use Rattle.store_definitions.specs.Ranges.{IsKey}

abbrev pub Octets : List ℕ → Type 0
Octets xs = Every (λ x. x < 2 ^ 8) xs

every_drop : (n : ℕ) (xs : List ℕ) → Octets xs → Octets (drop n xs)
every_drop zero xs h = h
every_drop (suc n) [] h = tt
every_drop (suc n) (x ∷ xs) h = every_drop n xs h.1

every_take : (n : ℕ) (xs : List ℕ) → Octets xs → Octets (take n xs)
every_take zero xs h = tt
every_take (suc n) [] h = tt
every_take (suc n) (x ∷ xs) h = (h.0, every_take n xs h.1)

small_index : (n : ℕ) → n % 4096 ≤ 0xfff
small_index n = omega arith

small_first : (a b : ℕ) → a < 2 ^ 8 → a + b % 16 * 256 ≤ 0xfff
small_first a b h = omega (arith, h)

small_second : (a b : ℕ) → a < 2 ^ 8 → b < 2 ^ 8 → a / 16 + b * 16 ≤ 0xfff
small_second a b h k = omega (arith, h, k)

small_number : (a b : ℕ) → a < 2 ^ 8 → b < 2 ^ 8 → number_of a b < 2 ^ 16
small_number a b h k = omega (arith, h, k)

pub mapped : {A B : Type 0} (P : A → Type 0) (Q : B → Type 0) (f : A → B) → ((x : A) → P x → Q (f x)) → (o : Option A) → Inside P o
    → Inside Q (option_map f o)
mapped P Q f k None h = tt
mapped P Q f k (Some x) h = k x h

-- whatever it is
any_inside : {A : Type 0} (P : A → Type 0) → ((x : A) → P x) → (o : Option A) → Inside P o
any_inside P k None = tt
any_inside P k (Some x) = k x

module _ (O : Type 0) where
  key_is : (octets : List ℕ) → (O → Octets octets) → Inside (λ key. O → IsKey key) (key_in octets)
  unfolding key_in
  key_is octets o =
      when _ (eqb (length octets) 16)
      (λ e. rw e (λ w. record { size = grind (arith, nat_tests, e); octets = All-from_recursion (λ x. x < 2 ^ 8) octets (o w) }))
      (λ e. rw e tt)

  indexes : (a b d : ℕ) (rest : List ℕ) → (O → Octets (a ∷ b ∷ d ∷ rest)) → AreIndexes O (record { net = a + b % 16 * 256; app = b / 16 + d * 16 })
  indexes a b d rest o = record { net = λ w. small_first a b (o w).0; app = λ w. small_second b d (o w).1.0 (o w).1.1.0 }

  indexes_are : (params : List ℕ) → (O → Octets params) → Inside (AreIndexes O) (indexes_in params)
  unfolding indexes_in
  indexes_are (a ∷ b ∷ d ∷ []) o = indexes a b d [] o
  indexes_are _ o = tt

  app_key_is : (params : List ℕ) → (O → Octets params) → Inside (IsAppKey O) (app_key_in params)
  unfolding app_key_in
  app_key_is (a ∷ b ∷ d ∷ key) o =
      mapped (λ key. O → IsKey key) (IsAppKey O) _ (λ key is. record { indexes = indexes a b d _ o; key = is }) (key_in key)
      (key_is key (λ w. (o w).1.1.1))
  app_key_is _ o = tt

  net_key_is : (params : List ℕ) → (O → Octets params) → Inside (IsNetKey O) (net_key_in params)
  unfolding net_key_in
  net_key_is (a ∷ b ∷ key) o =
      mapped (λ key. O → IsKey key) (IsNetKey O) _ (λ key is. record { net = small_index (number_of a b); key = is }) (key_in key)
      (key_is key (λ w. (o w).1.1))
  net_key_is _ o = tt

  net_is : (params : List ℕ) → Inside (λ net. net ≤ 0xfff) (net_in params)
  unfolding net_in
  net_is (a ∷ b ∷ []) = small_index (number_of a b)
  net_is _ = tt

  octet_is : (params : List ℕ) → (O → Octets params) → Inside (IsOctet O) (octet_in params)
  unfolding octet_in
  octet_is (value ∷ []) o = record { small = λ w. (o w).0 }
  octet_is _ o = tt

  default_ttl_is : (params : List ℕ) → Inside (λ ttl. is_default_ttl ttl ≡ true) (default_ttl_in params)
  unfolding default_ttl_in
  default_ttl_is (value ∷ []) = when _ (is_default_ttl value) (λ e. rw e e) (λ e. rw e tt)
  default_ttl_is _ = tt

  relay_is : (params : List ℕ) → (O → Octets params) → Inside (λ (r : RelayValue). IsOctet O r.retransmit) (relay_in params)
  unfolding relay_in
  relay_is (on ∷ retransmit ∷ []) o =
      mapped (λ (on : Bool). IsOctet O retransmit) (λ (r : RelayValue). IsOctet O r.retransmit) _ (λ on is. is) (switch_in (on ∷ []))
      (any_inside (λ (on : Bool). IsOctet O retransmit) (λ on. record { small = λ w. (o w).1.0 }) (switch_in (on ∷ [])))
  relay_is _ o = tt

  transition_is : (params : List ℕ) → Inside (IsRead O) (transition_in params)
  unfolding transition_in
  transition_is (a ∷ b ∷ transition ∷ []) =
      when _ (eqb transition 2) (λ e. rw e (small_index (number_of a b)))
      (λ e. rw e (when _ (eqb transition 3) (λ f. rw f (small_index (number_of a b))) (λ f. rw f tt)))
  transition_is _ = tt

  holder_is : (a b : ℕ) (rest model : List ℕ) → (O → Octets (a ∷ b ∷ rest)) → Inside (IsHolder O) (holder_in a b model)
  unfolding holder_in
  holder_is a b rest model o =
      mapped (λ (model : ModelId). IsHolder O (record { element = address_of a b; model = model })) (IsHolder O) _ (λ model is. is) (model_in model)
      (any_inside (λ (model : ModelId). IsHolder O (record { element = address_of a b; model = model }))
      (λ model. record { element = λ w. small_number a b (o w).0 (o w).1.0 }) (model_in model))

  element_model_is : (params : List ℕ) → (O → Octets params) → Inside (IsHolder O) (element_model_in params)
  unfolding element_model_in
  element_model_is (a ∷ b ∷ model) o = holder_is a b model model o
  element_model_is _ o = tt

  group_is : (params : List ℕ) → (O → Octets params) → Inside (IsGroup O) (group_in params)
  unfolding group_in
  group_is (a ∷ b ∷ d ∷ e ∷ model) o =
      mapped (IsHolder O) (IsGroup O) _ (λ holder is. record { holder = is; group = λ w. small_number d e (o w).1.1.0 (o w).1.1.1.0 })
      (holder_in a b model) (holder_is a b (d ∷ e ∷ model) model o)
  group_is _ o = tt

  binding_is : (params : List ℕ) → (O → Octets params) → Inside (IsBinding O) (binding_in params)
  unfolding binding_in
  binding_is (a ∷ b ∷ d ∷ e ∷ model) o =
      mapped (IsHolder O) (IsBinding O) _ (λ holder is. record { holder = is; app = small_index (number_of d e) })
      (holder_in a b model) (holder_is a b (d ∷ e ∷ model) model o)
  binding_is _ o = tt

  -- where a model stands behind it, a label has 16 octets
  labelled : (a b : ℕ) (rest : List ℕ) → (O → Octets (a ∷ b ∷ rest))
      → Inside (IsLabelled O) (option_map (λ (holder : ElementModel). record { holder = holder; label = take 16 rest }) (holder_in a b (drop 16 rest)))
  unfolding holder_in model_in
  labelled a b rest o = by_rest (drop 16 rest) refl
    where
      long : (n : ℕ) (xs : List ℕ) (x : ℕ) (ys : List ℕ) → drop n xs ≡ x ∷ ys → n ≤ length xs
      long zero xs x ys e = omega arith
      long (suc n) [] x ys e = absurd cc
      long (suc n) (z ∷ xs) x ys e = omega (arith, long n xs x ys e)

      size_of : 16 ≤ length rest → length (take 16 rest) ≡ 16
      size_of h = omega (arith, length-take 16 rest, h)

      label_is : 16 ≤ length rest → (model : ModelId)
          → IsLabelled O (record { holder = record { element = address_of a b; model = model }; label = take 16 rest })
      label_is h model = record {
        holder = record { element = λ w. small_number a b (o w).0 (o w).1.0 };
        label = λ w. record {
          size = size_of h;
          octets = All-from_recursion (λ x. x < 2 ^ 8) (take 16 rest) (every_take 16 rest (o w).1.1);
        };
      }

      by_rest : (model : List ℕ) → drop 16 rest ≡ model
          → Inside (IsLabelled O) (option_map (λ (holder : ElementModel). record { holder = holder; label = take 16 rest }) (holder_in a b model))
      by_rest (d ∷ e ∷ []) is = label_is (long 16 rest d (e ∷ []) is) _
      by_rest (d ∷ e ∷ f ∷ g ∷ []) is = label_is (long 16 rest d (e ∷ f ∷ g ∷ []) is) _
      by_rest _ is = tt

  label_is : (params : List ℕ) → (O → Octets params) → Inside (IsLabelled O) (label_in params)
  unfolding label_in
  label_is (a ∷ b ∷ rest) o = labelled a b rest o
  label_is _ o = tt

  publication_is : (params : List ℕ) → (O → Octets params) → Inside (IsPublication O) (publication_in params)
  unfolding publication_in
  publication_is (a ∷ b ∷ d ∷ e ∷ f ∷ g ∷ ttl ∷ period ∷ retransmit ∷ model) o =
      when _ (is_publish_ttl ttl)
      (λ t. rw t (mapped (IsHolder O) (IsPublication O) _
      (λ holder is. record {
        holder = is;
        address = λ w. small_number d e (o w).1.1.0 (o w).1.1.1.0;
        app = small_index (number_of f g);
        ttl = t;
        period = λ w. (o w).1.1.1.1.1.1.1.0;
        retransmit = λ w. (o w).1.1.1.1.1.1.1.1.0;
      })
      (holder_in a b model) (holder_is a b (d ∷ e ∷ f ∷ g ∷ ttl ∷ period ∷ retransmit ∷ model) model o)))
      (λ t. rw t tt)
  publication_is _ o = tt

  short : (h : HeartbeatRow) → is_heartbeat h ≡ true → h.ttl < 2 ^ 7
  short h is = by_tests (leb h.count 0x11 || eqb h.count 0xff) (leb h.period 0x11) (leb h.ttl 0x7f) refl is
    where
      is_least : leb h.ttl 0x7f ≡ true → h.ttl < 2 ^ 7
      is_least e = grind (arith, nat_tests)

      by_tests : (a b d : Bool) → leb h.ttl 0x7f ≡ d → (a && b && d) ≡ true → h.ttl < 2 ^ 7
      by_tests true true true e is = is_least e
      by_tests true true false e is = absurd cc
      by_tests true false d e is = absurd cc
      by_tests false b d e is = absurd cc

  tested : (h : HeartbeatRow) → Inside (λ (h : HeartbeatRow). h.ttl < 2 ^ 7) (cond (is_heartbeat h) (Some h) None)
  tested h = when _ (is_heartbeat h) (λ e. rw e (short h e)) (λ e. rw e tt)

  heartbeat_is : (params : List ℕ) → Inside (λ (h : HeartbeatRow). h.ttl < 2 ^ 7) (heartbeat_in params)
  unfolding heartbeat_in
  heartbeat_is (a ∷ b ∷ count ∷ period ∷ ttl ∷ d ∷ e ∷ f ∷ g ∷ []) =
      tested (record { dst = address_of a b; count = count; period = period; ttl = ttl; features = number_of d e; net = index_of f g })
  heartbeat_is _ = tt

  -- Each row.

  record Reads (o : Option ConfigMessage) : Type 0 where
    is : Inside (IsRead O) o

  without_is : (m : ConfigMessage) (params : List ℕ) → IsRead O m → Reads (without m params)
  unfolding without
  without_is m [] h = record { is = h }
  without_is m _ h = record { is = tt }

  octet_any : (m : ConfigMessage) (params : List ℕ) → IsRead O m → Reads (any_octet m params)
  unfolding any_octet
  octet_any m (octet ∷ []) h = record { is = h }
  octet_any m _ h = record { is = tt }

  row : (b : Bool) (x y : Option ConfigMessage) → Reads x → Reads y → Reads (cond b x y)
  row true x y h k = h
  row false x y h k = k

  fields : {A : Type 0} (P : A → Type 0) (f : A → ConfigMessage) → ((x : A) → P x → IsRead O (f x)) → (o : Option A) → Inside P o
      → Reads (option_map f o)
  fields P f k o h = record { is = mapped P (IsRead O) f k o h }

  free : {A : Type 0} (f : A → ConfigMessage) → ((x : A) → IsRead O (f x)) → (o : Option A) → Reads (option_map f o)
  free f k None = record { is = tt }
  free f k (Some x) = record { is = k x }

  message_is : (opcode : ℕ) (params : List ℕ) → (O → Octets params) → Reads (message_of opcode params)
  unfolding message_of
  message_is opcode params o =
      let app_key : Inside (IsAppKey O) (app_key_in params) = app_key_is params o in
      let net_key : Inside (IsNetKey O) (net_key_in params) = net_key_is params o in
      let group : Inside (IsGroup O) (group_in params) = group_is params o in
      let label : Inside (IsLabelled O) (label_in params) = label_is params o in
      let holder : Inside (IsHolder O) (element_model_in params) = element_model_is params o in
      let binding : Inside (IsBinding O) (binding_in params) = binding_is params o in
      row (eqb opcode 0x00) _ _ (fields (IsAppKey O) M.AppKeyAdd (λ x h. h) _ app_key)
      (row (eqb opcode 0x01) _ _ (fields (IsAppKey O) M.AppKeyUpdate (λ x h. h) _ app_key)
      (row (eqb opcode 0x03) _ _ (fields (IsPublication O) M.PublicationSet (λ x h. h) _ (publication_is params o))
      (row (eqb opcode 0x8000) _ _ (fields (AreIndexes O) M.AppKeyDelete (λ x h. h) _ (indexes_are params o))
      (row (eqb opcode 0x8001) _ _ (free M.AppKeyGet (λ x. tt) _)
      (row (eqb opcode 0x8008) _ _ (octet_any M.CompositionGet params tt)
      (row (eqb opcode 0x8009) _ _ (without_is M.BeaconGet params tt)
      (row (eqb opcode 0x800a) _ _ (free M.BeaconSet (λ x. tt) _)
      (row (eqb opcode 0x800c) _ _ (without_is M.DefaultTtlGet params tt)
      (row (eqb opcode 0x800d) _ _ (fields (λ ttl. is_default_ttl ttl ≡ true) M.DefaultTtlSet (λ x h. h) _ (default_ttl_is params))
      (row (eqb opcode 0x800f) _ _ (without_is M.FriendGet params tt)
      (row (eqb opcode 0x8010) _ _ (free M.FriendSet (λ x. tt) _)
      (row (eqb opcode 0x8012) _ _ (without_is M.ProxyGet params tt)
      (row (eqb opcode 0x8013) _ _ (free (λ on. M.ProxySet) (λ x. tt) _)
      (row (eqb opcode 0x8015) _ _ (free M.PhaseGet (λ x. tt) _)
      (row (eqb opcode 0x8016) _ _ (record { is = transition_is params })
      (row (eqb opcode 0x8018) _ _ (free M.PublicationGet (λ x. tt) _)
      (row (eqb opcode 0x801b) _ _ (fields (IsGroup O) M.SubscriptionAdd (λ x h. h) _ group)
      (row (eqb opcode 0x801c) _ _ (fields (IsGroup O) M.SubscriptionDelete (λ x h. h) _ group)
      (row (eqb opcode 0x801d) _ _ (fields (IsHolder O) M.SubscriptionDeleteAll (λ x h. h) _ holder)
      (row (eqb opcode 0x801e) _ _ (fields (IsGroup O) M.SubscriptionOverwrite (λ x h. h) _ group)
      (row (eqb opcode 0x8020) _ _ (fields (IsLabelled O) M.LabelAdd (λ x h. h) _ label)
      (row (eqb opcode 0x8021) _ _ (fields (IsLabelled O) M.LabelDelete (λ x h. h) _ label)
      (row (eqb opcode 0x8022) _ _ (fields (IsLabelled O) M.LabelOverwrite (λ x h. h) _ label)
      (row (eqb opcode 0x8023) _ _ (without_is M.TransmitGet params tt)
      (row (eqb opcode 0x8024) _ _ (fields (IsOctet O) M.TransmitSet (λ x h. h) _ (octet_is params o))
      (row (eqb opcode 0x8026) _ _ (without_is M.RelayGet params tt)
      (row (eqb opcode 0x8027) _ _ (fields (λ (r : RelayValue). IsOctet O r.retransmit) M.RelaySet (λ x h. h) _ (relay_is params o))
      (row (eqb opcode 0x802d) _ _ (free M.PollTimeoutGet (λ x. tt) _)
      (row (eqb opcode 0x8038) _ _ (without_is M.HeartbeatGet params tt)
      (row (eqb opcode 0x8039) _ _ (fields (λ (h : HeartbeatRow). h.ttl < 2 ^ 7) M.HeartbeatSet (λ x h. h) _ (heartbeat_is params))
      (row (eqb opcode 0x803d) _ _ (fields (IsBinding O) M.AppBind (λ x h. h) _ binding)
      (row (eqb opcode 0x803f) _ _ (fields (IsBinding O) M.AppUnbind (λ x h. h) _ binding)
      (row (eqb opcode 0x8040) _ _ (fields (IsNetKey O) M.NetKeyAdd (λ x h. h) _ net_key)
      (row (eqb opcode 0x8041) _ _ (fields (λ net. net ≤ 0xfff) M.NetKeyDelete (λ x h. h) _ (net_is params))
      (row (eqb opcode 0x8042) _ _ (without_is M.NetKeyGet params tt)
      (row (eqb opcode 0x8045) _ _ (fields (IsNetKey O) M.NetKeyUpdate (λ x h. h) _ net_key)
      (row (eqb opcode 0x8049) _ _ (without_is M.NodeReset params tt) (record { is = tt }))))))))))))))))))))))))))))))))))))))

  pub read_is : (payload : List ℕ) → (O → Octets payload) → Inside (IsRead O) (config_message payload)
  unfolding config_message
  read_is [] o = tt
  read_is (first ∷ rest) o =
      when _ (has_no_opcode (first ∷ rest)) (λ e. rw e tt)
      (λ e. rw e (message_is _ _ (λ w. every_drop (opcode_size first) (first ∷ rest) (o w))).is)
