-- What is heard of octets: from the readings and answers of the layers to those of the whole.
use Rattle.std.proofs.Common.{◌≡◌, ℕ, Bool, true, false, cond, not, List, [], ◌∷◌, ◌++◌, refl, ap, sym, subst, ◌∙◌, append-nil, Option, Some, None}
use Rattle.std.specs.Prelude.{IsFalse, MatchOption, fold, unwrap_or}
use Rattle.std.specs.Option.{option_map}
use Rattle.layer_definitions.specs.KeyRefresh.{heard_keys}
use Rattle.layer_definitions.specs.Network.{IsUnread, Reads}
use Rattle.layer_states.specs.Reassembly.{after}
use Rattle.layer_states.specs.Sending as sending
use Rattle.layer_states.specs.declared.reassembly.Assembly.{Assembly}
use Rattle.mesh_base.specs.declared.address.Address.{Address}
use Rattle.mesh_base.specs.declared.fields.Heard.{Heard}
use Rattle.mesh_base.specs.declared.fields.NetFields.{NetFields}
use Rattle.mesh_base.specs.declared.lower.Lower.{Lower}
use Rattle.mesh_base.specs.declared.pair.Name.{Name}
use Rattle.mesh_hearing.proofs.Entries.{goes_on}
use Rattle.mesh_hearing.proofs.Groups.{early_ticks, late_cached, late_ticks}
use Rattle.mesh_hearing.specs.Below.{IsNamedAs, IsReadAs, IsTransportAs, cache_after_row}
use Rattle.mesh_hearing.specs.Heard.{IsHeard, delivered_from, insight_of}
use Rattle.message_answers.specs.Kinds.{is_early, is_late}
use Rattle.mesh_hearing.specs.Tables.{AreTablesOf, TablesView, again_after, cache_after, tables_after}
use Rattle.mesh_hearing.specs.declared.hearing.Hearing.{Hearing}
use Rattle.message_answers.specs.declared.whole.Judged.{Judged}
use Rattle.mesh_reading.specs.Held.{held_in, opening_of, pdu_insight, reading_in, reading_of}
use Rattle.mesh_reading.specs.declared.heard.HeardPdu.{HeardPdu}
use Rattle.mesh_reading.specs.declared.heard.HeardPdu.TheVariants as H
use Rattle.mesh_reading.specs.declared.opening.Opened.{Opened}
use Rattle.event_definitions.proofs.Accepting.{some_is}
use Rattle.event_definitions.specs.Stores.{message_of}
use Rattle.mesh_reading.specs.Keys.{HeldKeys}
use Rattle.mesh_types.specs.declared.answers.Answer.{Answer}
use Rattle.mesh_types.specs.declared.answers.Answer.TheVariants as A
use Rattle.mesh_types.specs.declared.answers.KeyName.{KeyName}
use Rattle.mesh_types.specs.declared.events.Event.TheVariants as E
use Rattle.network_layer.specs.declared.reading.NetReading.{NetReading}
use Rattle.node_layers.specs.Friendship.{friend_keys}
use Rattle.node_layers.specs.NodeLayers.{node_layers}
use Rattle.node_layers.specs.Reassembly.{message_calls, tick_calls}
use Rattle.node_layers.specs.Sending.{own_calls}
use Rattle.node_layers.specs.Steps.{segmented_name}
use Rattle.node_records.specs.Meaning.{IsMeaningOf}
use Rattle.node_records.specs.Tables.{config_in}
use Rattle.node_records.specs.declared.persist.Persist.{Persist}
use Rattle.event_definitions.specs.Answers.{answer_of, cached_name, config_before, is_before_cache, message_name, name_of, network_answer, pdu_answer, transport_answer}
use Rattle.event_definitions.specs.History.{Insight, OfNothing, OfPdu, Past, Reading, Told, ticks_after}
use Rattle.event_definitions.specs.Readings.{IsLowerPdu, IsReading, Sees, sees_nothing, sees_pdu}
use Rattle.store_definitions.specs.Config.{Config, config_of}

-- What octets read as.

keys_are : (past : Past) (p : Persist) (keys : HeldKeys) (more : List Heard) → IsMeaningOf past.records p → keys ≡ held_in (config_in p) → more ≡ friend_keys past
    → heard_keys keys.nets ++ more ≡ heard_keys (config_before past).nets ++ friend_keys past
keys_are past p keys more m k f =
    ap (λ (h : HeldKeys). heard_keys h.nets ++ more) k ∙ ap (λ (c : Config). heard_keys c.nets ++ more) m.config
    ∙ ap (λ ks. heard_keys (config_before past).nets ++ ks) f

pub reads : (past : Past) (p : Persist) (keys : HeldKeys) (more : List Heard) (octets : List ℕ) (r : NetReading) → IsMeaningOf past.records p → keys ≡ held_in (config_in p)
    → more ≡ friend_keys past
    → (place : ℕ) × Reads (heard_keys keys.nets ++ more) p.iv.current octets r.fields place r.by → IsReading node_layers past octets (Some (reading_of r))
unfolding node_layers
reads past p keys more octets r m k f (place, read) =
    let current : p.iv.current ≡ (config_before past).iv.current = ap (λ (c : Config). c.iv.current) m.config in (
      place,
      subst (λ ks. Reads ks (config_before past).iv.current octets r.fields place r.by) (keys_are past p keys more m k f)
          (subst (λ iv. Reads (heard_keys keys.nets ++ more) iv octets r.fields place r.by) current read),
    )

unread_under : (keys : List Heard) (current : ℕ) (octets : List ℕ) → IsUnread keys current octets
    → (f : NetFields) (place : ℕ) (by : Heard) → Reads keys current octets f place by → ⊥
unread_under keys current octets none f place by r = none place by f r.key r.reads

pub reads_none : (past : Past) (p : Persist) (keys : HeldKeys) (more : List Heard) (octets : List ℕ) → IsMeaningOf past.records p → keys ≡ held_in (config_in p)
    → more ≡ friend_keys past
    → IsUnread (heard_keys keys.nets ++ more) p.iv.current octets → IsReading node_layers past octets None
unfolding node_layers
reads_none past p keys more octets m k f none =
    let current : p.iv.current ≡ (config_before past).iv.current = ap (λ (c : Config). c.iv.current) m.config in
    unread_under (heard_keys (config_before past).nets ++ friend_keys past) (config_before past).iv.current octets
    (subst (λ ks. IsUnread ks (config_before past).iv.current octets) (keys_are past p keys more m k f)
    (subst (λ iv. IsUnread (heard_keys keys.nets ++ more) iv octets) current none))

-- The answer, where there was no Node Reset.

before_reset : (past : Past) (p : Persist) → IsMeaningOf past.records p → p.reset ≡ false → (config_before past).reset ≡ false
before_reset past p m e = ap (λ (c : Config). c.reset) (sym m.config) ∙ e

answered : (past : Past) (octets : List ℕ) (i : Insight) (a : Answer) → (config_before past).reset ≡ false → a ≡ pdu_answer node_layers past i
    → a ≡ answer_of node_layers past (E.Net octets) i
unfolding answer_of
answered past octets i a e h = h ∙ ap (λ b. cond b A.Reset (pdu_answer node_layers past i)) (sym e)

no_reset : (past : Past) → (config_before past).reset ≡ false → IsFalse (config_before past).reset
no_reset past e = e

pub heard_unread : (past : Past) (p : Persist) (octets : List ℕ) → IsMeaningOf past.records p → p.reset ≡ false → IsReading node_layers past octets None
    → IsReadAs past octets (record { pdu = H.Unread; answer = A.Unread })
heard_unread past p octets m e none =
    let reset = before_reset past p m e in
    record {
      sees = sees_pdu {octets = octets} {reading = None} {low = None} {opening = None} (no_reset past reset) none refl refl;
      answer = answered past octets (OfPdu None None None) A.Unread reset refl;
    }

pub heard_early : (past : Past) (p : Persist) (octets : List ℕ) (r : NetReading) (a : Answer) → IsMeaningOf past.records p → p.reset ≡ false
    → IsReading node_layers past octets (Some (reading_of r)) → Some a ≡ network_answer past (reading_of r)
    → IsReadAs past octets (record { pdu = H.Network r; answer = a })
heard_early past p octets r a m e reading row =
    let reset = before_reset past p m e in
    record {
      sees = sees_pdu {octets = octets} {reading = Some (reading_of r)} {low = None} {opening = None} (no_reset past reset) reading
          (subst (λ o. MatchOption o (IsLowerPdu r.fields None) (λ answer. let none : Option Lower = None in none ≡ None)) row refl) refl;
      answer = answered past octets (OfPdu (Some (reading_of r)) None None) a reset
          (ap (λ o. unwrap_or o (transport_answer node_layers past (reading_of r) None None)) row);
    }

pub heard_late : (past : Past) (p : Persist) (octets : List ℕ) (r : NetReading) (h : Hearing) → IsMeaningOf past.records p → p.reset ≡ false
    → IsReading node_layers past octets (Some (reading_of r)) → None ≡ network_answer past (reading_of r)
    → IsTransportAs past (reading_of r) h → IsReadAs past octets h
heard_late past p octets r h m e reading row t =
    let reset = before_reset past p m e in
    record {
      sees = subst (λ x. Sees node_layers past (E.Net octets) x) (sym t.read)
          (sees_pdu {octets = octets} {reading = Some (reading_of r)} {low = t.low} {opening = t.opening} (no_reset past reset) reading
          (subst (λ o. MatchOption o (IsLowerPdu r.fields t.low) (λ answer. t.low ≡ None)) row t.lower) t.opens);
      answer = answered past octets (OfPdu (Some (reading_of r)) t.low t.opening) h.answer reset
          (t.answer ∙ ap (λ o. unwrap_or o (transport_answer node_layers past (reading_of r) t.low t.opening)) row)
          ∙ ap (λ x. answer_of node_layers past (E.Net octets) x) (sym t.read);
    }

-- The lower transport layer.

pub transport_named : (past : Past) (r : Reading) (low : Lower) (j : Judged) (pdu : HeardPdu) → IsLowerPdu r.fields (Some low)
    → IsNamedAs past r low (message_name r.fields low) j → pdu_insight pdu ≡ OfPdu (Some r) (Some low) (option_map opening_of j.opened)
    → IsTransportAs past r (record { pdu = pdu; answer = j.answer })
transport_named past r low j pdu is n read =
    record { low = Some low; opening = option_map opening_of j.opened; read = read; lower = is; opens = n.opens; answer = n.answer }

pub transport_none : (past : Past) (r : NetReading) → IsLowerPdu r.fields None → IsTransportAs past (reading_of r) (record { pdu = H.Network r; answer = A.Malformed })
transport_none past r none = record { low = None; opening = None; read = refl; lower = none; opens = refl; answer = refl }

-- A message that was delivered.

pub none_opened : (h : HeardPdu) (a : Answer) → ((r : NetReading) (low : Lower) (o : Opened) → h ≡ H.Opened r low o → ⊥) → delivered_from (pdu_insight h) a ≡ None
none_opened H.Reset (A.Delivered name dst key payload) other = refl
none_opened H.Unread (A.Delivered name dst key payload) other = refl
none_opened (H.Network r) (A.Delivered name dst key payload) other = refl
none_opened (H.Lower r low) (A.Delivered name dst key payload) other = refl
none_opened (H.Opened r low o) (A.Delivered name dst key payload) other = absurd (other r low o refl)
none_opened h _ other = refl

pub none_delivered : (i : Insight) (a : Answer)
    → ((name : Name) (dst : Address) (key : KeyName) (payload : List ℕ) → a ≡ A.Delivered name dst key payload → ⊥) → delivered_from i a ≡ None
none_delivered i (A.Delivered name dst key payload) other = absurd (other name dst key payload refl)
none_delivered i _ other = refl

pub some_delivered : (h : HeardPdu) (a : Answer) (r : NetReading) (low : Lower) (o : Opened) (name : Name) (dst : Address) (key : KeyName) (payload : List ℕ)
    → h ≡ H.Opened r low o → a ≡ A.Delivered name dst key payload → delivered_from (pdu_insight h) a ≡ message_of (OfPdu (Some (reading_of r)) (Some low) (Some (opening_of o))) name dst
some_delivered h a r low o name dst key payload is answer = ap (λ x. delivered_from (pdu_insight h) x) answer ∙ ap (λ x. message_of (pdu_insight x) name dst) is

-- The tables.

row_cached : (r : Reading) (b : Bool) → cond b None (Some (name_of r.fields)) ≡ cached_name (OfPdu (Some r) None None) b
row_cached r true = refl
row_cached r false = refl

pub cache_early : (r : NetReading) (names : List Name) (a : Answer)
    → cache_after_row names r.fields (Some a) ≡ cache_after names (cached_name (OfPdu (Some (reading_of r)) None None) (is_before_cache a))
cache_early r names a = ap (λ n. cache_after names n) (row_cached (reading_of r) (is_before_cache a))

-- the name of a PDU that read, as it is cached
name_read : (pdu : HeardPdu) (r : NetReading) → reading_in pdu ≡ Some r → Some (name_of r.fields) ≡ cached_name (pdu_insight pdu) false
name_read H.Reset r e = absurd cc
name_read H.Unread r e = absurd cc
name_read (H.Network x) r e = ap (λ (y : NetReading). Some (name_of y.fields)) (sym (some_is e))
name_read (H.Lower x low) r e = ap (λ (y : NetReading). Some (name_of y.fields)) (sym (some_is e))
name_read (H.Opened x low o) r e = ap (λ (y : NetReading). Some (name_of y.fields)) (sym (some_is e))

pub cache_late : (r : NetReading) (names : List Name) (h : Hearing) → reading_in h.pdu ≡ Some r → is_late h.answer ≡ true
    → cache_after_row names r.fields None ≡ cache_after names (cached_name (insight_of h) (is_before_cache h.answer))
cache_late r names h e late =
    ap (λ n. cache_after names n) (name_read h.pdu r e)
    ∙ ap (λ b. cache_after names (cached_name (insight_of h) b)) (sym (late_cached h.answer late))

pub parts_early : (parts : List Assembly) (a : Answer) → is_early a ≡ true → parts ≡ fold after parts ([] ++ tick_calls a)
parts_early parts a e = ap (λ cs. fold after parts ([] ++ cs)) (sym (early_ticks a e))

pub parts_late : (parts new : List Assembly) (now : ℕ) (c : Config) (i : Insight) (a : Answer) → is_late a ≡ true
    → new ≡ fold after parts (message_calls now c i a) → new ≡ fold after parts (message_calls now c i a ++ tick_calls a)
parts_late parts new now c i a late e =
    e ∙ ap (λ cs. fold after parts cs) (sym (append-nil (message_calls now c i a)) ∙ ap (λ cs. message_calls now c i a ++ cs) (sym (late_ticks a late)))

pub tables_more : (told : List Told) (t u : TablesView) (e : Told) (i : Insight) (a : Answer) (c : Config) → AreTablesOf t told
    → e.insight ≡ i → e.entry.answer ≡ a → config_of e.records ≡ c
    → u.cache ≡ cache_after t.cache (cached_name i (is_before_cache a))
    → u.parts ≡ fold after t.parts (message_calls t.ticks c i a ++ tick_calls a)
    → u.again ≡ again_after t.again (segmented_name i a) → u.own ≡ fold sending.after t.own (own_calls t.ticks e.entry.event a)
    → u.ticks ≡ ticks_after t.ticks a → AreTablesOf u (told ++ e ∷ [])
tables_more told t u e i a c h ei ea ec cache parts again own now =
    let by_insight = subst (λ x. AreTablesOf (tables_after t (config_of e.records) e.entry.event x e.entry.answer) (told ++ e ∷ [])) ei (goes_on t told e h) in
    let by_answer = subst (λ x. AreTablesOf (tables_after t (config_of e.records) e.entry.event i x) (told ++ e ∷ [])) ea by_insight in
    let more = subst (λ x. AreTablesOf (tables_after t x e.entry.event i a) (told ++ e ∷ [])) ec by_answer in
    record { cache = cache ∙ more.cache; parts = parts ∙ more.parts; again = again ∙ more.again; own = own ∙ more.own; ticks = now ∙ more.ticks }

reset_answer : (past : Past) (octets : List ℕ) → (config_before past).reset ≡ true → A.Reset ≡ answer_of node_layers past (E.Net octets) OfNothing
unfolding answer_of
reset_answer past octets e = ap (λ b. cond b A.Reset (pdu_answer node_layers past OfNothing)) (sym e)

pub heard_reset : (past : Past) (p : Persist) (octets : List ℕ) (t : TablesView) → IsMeaningOf past.records p → p.reset ≡ true → AreTablesOf t past.told
    → IsHeard past octets (record { pdu = H.Reset; answer = A.Reset }) t
heard_reset past p octets t m e h =
    let reset : (config_before past).reset ≡ true = ap (λ (c : Config). c.reset) (sym m.config) ∙ e in
    record {
      sees = sees_nothing {event = E.Net octets} (ap (λ b. not b) reset);
      answer = reset_answer past octets reset;
      tables = λ x i a r. tables_more past.told t t x OfNothing A.Reset (config_of x.records) h i a refl refl refl refl refl refl;
    }
