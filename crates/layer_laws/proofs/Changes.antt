-- What an access message stores: the record of the configuration that it asks for, then values of models.
use Rattle.std.proofs.Common.{◌≡◌, ℕ, zero, suc, ◌+◌, ◌^◌, ◌<◌, ◌≤◌, inl, inr, Bool, true, false, cond, ◌||◌, eqb, ltb, List, [], ◌∷◌, ◌++◌, length, refl, sym, subst, arith, append_assoc, append-nil, ℤ, Option, Some, None}
use Rattle.std.specs.Int.{cast_unsigned, w16}
use Rattle.std.specs.List.{AllByRecursion as Every, range_with_len}
use Rattle.std.specs.Option.{option_map_or, option_to_list}
use Rattle.std.proofs.lemmas.Bool.Decides.{nat_tests}
use Rattle.std.proofs.lemmas.List.{length-map}
use Rattle.config_definitions.proofs.Reading.{Octets}
use Rattle.config_definitions.specs.declared.acts.ConfigAct.{ConfigAct}
use Rattle.mesh_base.specs.declared.address.Address.{Address}
use Rattle.model_states.specs.declared.publication.HeartbeatRow.{HeartbeatRow}
use Rattle.mesh_base.specs.declared.pair.Name.{Name}
use Rattle.model_states.specs.Level.{level_after_payload, level_kept}
use Rattle.model_states.specs.OnOff.{onoff_after, onoff_kept, onoff_octet}
use Rattle.model_states.specs.Publication.{no_heartbeat}
use Rattle.node_layers.specs.Configuration.{config_act, is_for_server}
use Rattle.node_layers.specs.Models.{elements_of, level_records, level_server, level_state, model_records, onoff_records, onoff_server, onoff_state, takes}
use Rattle.node_layers.specs.ConfiguredLayers.{changes_of}
use Rattle.node_limits.specs.declared.TheConstants.{APPLICATION_KEYS, BINDINGS, ELEMENTS, GROUP_SUBSCRIPTIONS, LABEL_SUBSCRIPTIONS, NETWORK_KEYS}
use Rattle.node_records.proofs.Rising.{keyed_of}
use Rattle.event_definitions.specs.Answers.{config_before}
use Rattle.event_definitions.specs.Fit.{AreStorable}
use Rattle.event_definitions.specs.History.{Past, now_of}
use Rattle.event_definitions.proofs.Each.{every_append}
use Rattle.store_definitions.proofs.Pushes.{config_push}
use Rattle.event_definitions.specs.Safe.{IsChange}
use Rattle.store_definitions.specs.Following.{AreInOrder, Follows}
use Rattle.store_definitions.specs.Node.{IsWhole, KeepsWhole}
use Rattle.store_definitions.specs.Ranges.{IsInRange}
use Rattle.event_definitions.specs.Layers.{AccessMessage}
use Rattle.record_types.specs.declared.records.StoreRecord.{StoreRecord}
use Rattle.record_types.specs.declared.records.StoreRecord.TheVariants as R
use Rattle.store_definitions.specs.Config.{Config, changed, config_of}
use Rattle.layer_laws.specs.Laws.{IsWithinLimits}
use Rattle.layer_laws.proofs.Acts.{Acted, acted_weaker}
use Rattle.layer_laws.proofs.Levels.{kept_fits, payload_fits, state_fits, unsigned_small}
use Rattle.layer_laws.proofs.Lists.{Inside, every_flat, every_flat_any, every_option, when}
use Rattle.layer_laws.proofs.Messages.{act_acted}
use Rattle.layer_laws.proofs.Stored.{Fits, IsWithin, Leaf, Sound, filter_shorter}

-- as a list
pub act_list : (P : StoreRecord → Type 0) (o : Option ConfigAct) → Acted P o → Every P (option_map_or (λ (a : ConfigAct). option_to_list a.change) o [])
act_list P None h = tt
act_list P (Some a) h = every_option P a.change h.change

-- Values of models.

-- of one element, where the record of each model is so
module _ (P : StoreRecord → Type 0) (past : Past) (c : Config) (element : ℕ) (m : AccessMessage)
    (onoff : (value : ℕ) → value < 2 → P (R.Model element onoff_server value)) (level : (value : ℕ) → value < 2 ^ 16 → P (R.Model element level_server value)) where
  octet_small : (b : Bool) → onoff_octet b < 2
  octet_small true = omega arith
  octet_small false = omega arith

  onoff_kept_as : Bool
  onoff_kept_as = onoff_kept (onoff_after (onoff_state past element) (now_of past.told) m.name.src m.dst m.payload)

  onoff_each : Every P (onoff_records past c element m)
  unfolding onoff_kept_as
  onoff_each =
      when _ (takes c element onoff_server m)
      (λ e. rw e (when _ (eqb (onoff_octet (onoff_kept (onoff_state past element))) (onoff_octet onoff_kept_as))
      (λ f. rw f tt) (λ f. rw f (onoff (onoff_octet onoff_kept_as) (octet_small onoff_kept_as), tt))))
      (λ e. rw e tt)

  level_kept_as : ℤ
  level_kept_as = level_kept (level_after_payload (level_state past element) (now_of past.told) m.name.src m.dst m.payload)

  level_each : Every P (level_records past c element m)
  unfolding level_kept_as
  level_each =
      when _ (takes c element level_server m)
      (λ e. rw e (when _ (eqb (cast_unsigned w16 (level_kept (level_state past element))) (cast_unsigned w16 level_kept_as))
      (λ f. rw f tt)
      (λ f. rw f (
        level (cast_unsigned w16 level_kept_as)
            (unsigned_small level_kept_as (kept_fits _ (payload_fits (level_state past element) (now_of past.told) m.name.src m.dst m.payload (state_fits past element)))),
        tt,
      ))))
      (λ e. rw e tt)

  pub element_each : Every P (onoff_records past c element m ++ level_records past c element m)
  element_each = every_append P (onoff_records past c element m) (level_records past c element m) onoff_each level_each

-- the places of elements are below their number
pub every_place : (a n k : ℕ) → a + n ≤ k → Every (λ e. e < k) (range_with_len a n)
every_place a zero k h = tt
every_place a (suc n) k h = (omega (arith, h), every_place (a + 1) n k (omega (arith, h)))

-- All that a message stores is a change.

pub changes_are : (past : Past) (m : AccessMessage) → Every IsChange (changes_of past m)
changes_are past m =
    let c : Config = config_before past in
    let act : Option ConfigAct = config_act c [] no_heartbeat m in
    every_append IsChange (option_map_or (λ (a : ConfigAct). option_to_list a.change) act []) (model_records past m)
    (act_list IsChange act (acted_weaker (Leaf c (Octets m.payload)) IsChange (λ item l. l.change) act (act_acted c [] no_heartbeat m)))
    (every_flat_any IsChange (λ element. onoff_records past c element m ++ level_records past c element m)
    (λ element. element_each IsChange past c element m (λ value h. tt) (λ value h. tt)) (elements_of c))

-- And it fits a sound node.

-- what a change leaves within the limits may follow
follows : (records : List StoreRecord) (item : StoreRecord) → IsChange item → IsWithin (config_of records) item → Follows records item
follows records (R.Identity unicast elements dev_key) h w = absurd h
follows records (R.Numbers current progress mark hours since) h w = absurd h
follows records (R.Hour hours since) h w = absurd h
follows records (R.Replay first second) h w = absurd h
follows records (R.NetKey op index key) h w = record { within = λ p. absurd (omega (arith, p, w)); rises = tt }
follows records (R.AppKey op net index key) h w = record { within = λ p. absurd (omega (arith, p, w)); rises = tt }
follows records (R.Bind op element model app) h w = record { within = λ p. absurd (omega (arith, p, w)); rises = tt }
follows records (R.Subscribe op element model address) h w = record { within = λ p. absurd (omega (arith, p, w)); rises = tt }
follows records (R.Feature which value) h w = record { within = λ p. p; rises = tt }
follows records R.Reset h w = record { within = λ p. p; rises = tt }
follows records (R.Model element model value) h w = record { within = λ p. p; rises = tt }
follows records (R.Label op element model label) h w = record { within = λ p. absurd (omega (arith, p, w)); rises = tt }
follows records (R.Publish row) h w = record { within = λ p. absurd (omega (arith, p, w)); rises = tt }

-- values of models may follow anything
abbrev IsValue : StoreRecord → Type 0
IsValue (R.Model element model value) = IsInRange (R.Model element model value)
IsValue _ = ⊥

values_storable : (before values : List StoreRecord) → Every IsValue values → AreStorable before values
values_storable before [] h = tt
values_storable before (R.Model element model value ∷ rest) h =
    (h.0, record { within = λ p. p; rises = tt }, tt, values_storable (before ++ R.Model element model value ∷ []) rest h.1)
values_storable before (R.Identity unicast elements dev_key ∷ rest) h = absurd h.0
values_storable before (R.Numbers current progress mark hours since ∷ rest) h = absurd h.0
values_storable before (R.Hour hours since ∷ rest) h = absurd h.0
values_storable before (R.Replay first second ∷ rest) h = absurd h.0
values_storable before (R.NetKey op index key ∷ rest) h = absurd h.0
values_storable before (R.AppKey op net index key ∷ rest) h = absurd h.0
values_storable before (R.Bind op element app_model app ∷ rest) h = absurd h.0
values_storable before (R.Subscribe op element model address ∷ rest) h = absurd h.0
values_storable before (R.Feature which value ∷ rest) h = absurd h.0
values_storable before (R.Reset ∷ rest) h = absurd h.0
values_storable before (R.Label op element model label ∷ rest) h = absurd h.0
values_storable before (R.Publish row ∷ rest) h = absurd h.0

act_storable : (before values : List StoreRecord) (c : Config) (O : Type 0) (act : Option ConfigAct) → config_of before ≡ c → Sound c → O → Acted (Leaf c O) act
    → Every IsValue values → AreStorable before (option_map_or (λ (a : ConfigAct). option_to_list a.change) act [] ++ values)
act_storable before values c O None e s o h k = values_storable before values k
act_storable before values c O (Some a) e s o h k = by_change a.change h.change
  where
    by_change : (change : Option StoreRecord) → Inside (Leaf c O) change → AreStorable before (option_to_list change ++ values)
    by_change None l = values_storable before values k
    by_change (Some item) l =
        let fits : Fits c item = l.fits s o in (
          fits.range,
          follows before item l.change (subst (λ d. IsWithin d item) (sym e) fits.within),
          subst (λ d. KeepsWhole d item) (sym e) fits.keeps,
          values_storable (before ++ item ∷ []) values k,
        )

replay_same : (records : List StoreRecord) (n : Name) → config_of (records ++ R.Replay n None ∷ []) ≡ config_of records
unfolding changed
replay_same records n = config_push records (R.Replay n None)

pub changes_storable : (past : Past) (m : AccessMessage) → Sound (config_before past) → Octets m.payload
    → AreStorable (past.records ++ R.Replay m.name None ∷ []) (changes_of past m)
changes_storable past m s o =
    let c : Config = config_before past in
    act_storable (past.records ++ R.Replay m.name None ∷ []) (model_records past m) c (Octets m.payload) (config_act c [] no_heartbeat m) (replay_same past.records m.name) s o (act_acted c [] no_heartbeat m)
    (every_flat (λ e. e < ELEMENTS) IsValue (λ element. onoff_records past c element m ++ level_records past c element m)
    (λ element l. element_each IsValue past c element m (λ value h. (l, inl (refl, h))) (λ value h. (l, inr (refl, h)))) (elements_of c)
    (every_place 0 c.elements ELEMENTS (omega (arith, s.whole.few))))

-- A node is sound where its records may each follow those before it.

shorter_pick : {A : Type 0} (b : Bool) (xs ys : List A) (n : ℕ) → length xs ≤ n → length ys ≤ n → length (cond b xs ys) ≤ n
shorter_pick true xs ys n h k = h
shorter_pick false xs ys n h k = k

le_after : (a b n : ℕ) → a ≤ b → b ≤ n → a ≤ n
le_after a b n h k = omega (arith, h, k)

not_above : (a n : ℕ) → (n < a → ⊥) → a ≤ n
not_above a n h = when _ (ltb n a) (λ e. absurd (h (grind (arith, nat_tests, e)))) (λ e. grind (arith, nat_tests, e))

limits_changed : (records : List StoreRecord) (item : StoreRecord) → Follows records item → IsWithinLimits (config_of records) → IsWithinLimits (changed (config_of records) item)
unfolding changed
limits_changed records (R.NetKey op index key) f h =
    let c : Config = config_of records in
    record {
      nets = not_above _ NETWORK_KEYS f.within;
      apps = shorter_pick (eqb op 4) _ _ APPLICATION_KEYS (rw length-map h.apps) (shorter_pick (eqb op 5) _ c.apps APPLICATION_KEYS (le_after _ (length c.apps) APPLICATION_KEYS (filter_shorter _ c.apps) h.apps) h.apps);
      binds = shorter_pick (eqb op 5) _ c.binds BINDINGS (le_after _ (length c.binds) BINDINGS (filter_shorter _ c.binds) h.binds) h.binds;
      subs = h.subs;
      labels = h.labels;
    }
limits_changed records (R.AppKey op net index key) f h =
    let c : Config = config_of records in
    record {
      nets = h.nets;
      apps = not_above _ APPLICATION_KEYS f.within;
      binds = shorter_pick (eqb op 3) _ c.binds BINDINGS (le_after _ (length c.binds) BINDINGS (filter_shorter _ c.binds) h.binds) h.binds;
      subs = h.subs;
      labels = h.labels;
    }
limits_changed records (R.Bind op element model app) f h = record { nets = h.nets; apps = h.apps; binds = not_above _ BINDINGS f.within; subs = h.subs; labels = h.labels }
limits_changed records (R.Subscribe op element model address) f h =
    let c : Config = config_of records in
    record {
      nets = h.nets;
      apps = h.apps;
      binds = h.binds;
      subs = not_above _ GROUP_SUBSCRIPTIONS f.within;
      labels = shorter_pick (eqb op 3 || eqb op 4) _ c.labels LABEL_SUBSCRIPTIONS (le_after _ (length c.labels) LABEL_SUBSCRIPTIONS (filter_shorter _ c.labels) h.labels) h.labels;
    }
limits_changed records (R.Label op element model label) f h =
    let c : Config = config_of records in
    record {
      nets = h.nets;
      apps = h.apps;
      binds = h.binds;
      subs = shorter_pick (eqb op 4) _ c.subs GROUP_SUBSCRIPTIONS (le_after _ (length c.subs) GROUP_SUBSCRIPTIONS (filter_shorter _ c.subs) h.subs) h.subs;
      labels = not_above _ LABEL_SUBSCRIPTIONS f.within;
    }
limits_changed records _ f h = record { nets = h.nets; apps = h.apps; binds = h.binds; subs = h.subs; labels = h.labels }

limits_after : (before more : List StoreRecord) → AreInOrder before more → IsWithinLimits (config_of before) → IsWithinLimits (config_of (before ++ more))
limits_after before [] h l = rw append-nil l
limits_after before (item ∷ more) h l =
    rw (← append_assoc before (item ∷ []) more)
    (limits_after (before ++ item ∷ []) more h.1 (subst IsWithinLimits (sym (config_push before item)) (limits_changed before item h.0 l)))

pub limits_of : (records : List StoreRecord) → AreInOrder [] records → IsWithinLimits (config_of records)
limits_of records h = limits_after [] records h (record { nets = omega arith; apps = omega arith; binds = omega arith; subs = omega arith; labels = omega arith })

pub sound_within : (records : List StoreRecord) → IsWhole (config_of records) → IsWithinLimits (config_of records) → Sound (config_of records)
sound_within records whole l = record {
  whole = whole;
  nets_rise = (keyed_of records).nets;
  publications_rise = (keyed_of records).publications;
  nets = l.nets;
  apps = l.apps;
  binds = l.binds;
  subs = l.subs;
  labels = l.labels;
}

pub sound_of : (records : List StoreRecord) → IsWhole (config_of records) → AreInOrder [] records → Sound (config_of records)
sound_of records whole order = sound_within records whole (limits_of records order)
