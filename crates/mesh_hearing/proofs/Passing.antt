-- Beacons, and time that passed.
use Rattle.std.proofs.Common.{◌≡◌, ℕ, ◌+◌, ◌^◌, Bool, true, false, cond, not, min, filter, List, [], ◌∷◌, ◌++◌, refl, ap, sym, subst, ◌∙◌, Some, None}
use Rattle.std.specs.Prelude.{fold}
use Rattle.layer_definitions.specs.Beacon.{BeaconSource, ReadsBeacon}
use Rattle.layer_definitions.specs.KeyRefresh.{beacon_keys, net_index}
use Rattle.layer_definitions.specs.Order.{IsByIndex, by_index}
use Rattle.layer_states.specs.Reassembly.{acks_due, after, tick}
use Rattle.layer_states.specs.Sending as sending
use Rattle.mesh_base.specs.declared.beacon.Beacon.{Beacon}
use Rattle.mesh_base.specs.declared.keys.NetKeyRow.{NetKeyRow}
use Rattle.mesh_hearing.proofs.Entries.{goes_on}
use Rattle.mesh_hearing.proofs.Heard.{tables_more}
use Rattle.mesh_hearing.specs.Below.{beacon_calls, beacon_row, is_any}
use Rattle.mesh_hearing.specs.Heard.{IsBeaconHeard, IsPassed}
use Rattle.mesh_hearing.specs.Tables.{AreTablesOf, TablesView, tables_after}
use Rattle.mesh_hearing.specs.declared.ticks.Passed.{Passed}
use Rattle.mesh_types.specs.declared.answers.Answer.{Answer}
use Rattle.mesh_types.specs.declared.answers.Answer.TheVariants as A
use Rattle.mesh_types.specs.declared.events.Event.{Event}
use Rattle.mesh_types.specs.declared.events.Event.TheVariants as E
use Rattle.net_beacon.specs.Reading.{IsUnread}
use Rattle.node_layers.specs.BuiltLayers.{built_layers}
use Rattle.node_layers.specs.ConfiguredLayers.{configured_layers}
use Rattle.node_layers.specs.NodeLayers.{node_layers}
use Rattle.node_layers.specs.Reassembly.{messages}
use Rattle.node_layers.specs.Sending as own
use Rattle.node_records.specs.Meaning.{IsMeaningOf}
use Rattle.node_records.specs.Tables.{config_in}
use Rattle.node_records.specs.declared.persist.Persist.{Persist}
use Rattle.event_definitions.specs.Answers.{answer_of, beacon_answer, config_before, later}
use Rattle.event_definitions.specs.History.{Insight, OfBeacon, OfNothing, Past, Told}
use Rattle.event_definitions.specs.Readings.{sees_beacon, sees_nothing}
use Rattle.segment_sender.specs.Held.{has_round}
use Rattle.store_definitions.specs.Config.{Config, config_of}

before_reset : (past : Past) (p : Persist) (b : Bool) → IsMeaningOf past.records p → p.reset ≡ b → (config_before past).reset ≡ b
before_reset past p b m e = ap (λ (c : Config). c.reset) (sym m.config) ∙ e

-- The keys whose beacons are read.

keys_are : (past : Past) (p : Persist) → IsMeaningOf past.records p
    → ((rows : List NetKeyRow) → IsByIndex net_index rows → by_index net_index rows ≡ rows) → IsByIndex net_index (config_of past.records).nets
    → beacon_keys (by_index net_index p.nets) ≡ beacon_keys (config_before past).nets
keys_are past p m same order =
    ap beacon_keys (ap (λ rows. by_index net_index rows) (ap (λ (c : Config). c.nets) m.config) ∙ same (config_of past.records).nets order)

beacon_unless : (past : Past) (octets : List ℕ) (i : Insight) (a : Answer) → (config_before past).reset ≡ false → a ≡ beacon_answer node_layers past i
    → a ≡ answer_of node_layers past (E.Bcn octets) i
unfolding answer_of
beacon_unless past octets i a e h = h ∙ ap (λ b. cond b A.Reset (beacon_answer node_layers past i)) (sym e)

beacon_is : (past : Past) (p : Persist) (t : TablesView) (b : Beacon) (a : Answer) → IsMeaningOf past.records p → AreTablesOf t past.told
    → a ≡ beacon_row (config_in p) (is_any t.own) b → a ≡ beacon_answer node_layers past (OfBeacon (Some b))
unfolding node_layers configured_layers built_layers
beacon_is past p t b a m h e = e ∙ ap (λ c. beacon_row c (is_any t.own) b) m.config ∙ ap (λ rows. beacon_row (config_before past) (is_any rows) b) h.own

pub beacon_heard : (past : Past) (p : Persist) (t : TablesView) (octets : List ℕ) (b : Beacon) (a : Answer) → IsMeaningOf past.records p → AreTablesOf t past.told
    → p.reset ≡ false
    → ((rows : List NetKeyRow) → IsByIndex net_index rows → by_index net_index rows ≡ rows) → IsByIndex net_index (config_of past.records).nets
    → ReadsBeacon (beacon_keys (by_index net_index p.nets)) octets b
    → a ≡ beacon_row (config_in p) (is_any t.own) b
    → IsBeaconHeard past octets (record { reset = false; beacon = Some b; answer = a })
beacon_heard past p t octets b a m h e same order reads is =
    let reset = before_reset past p false m e in
    record {
      sees = sees_beacon {octets = octets} {b = Some b} reset (subst (λ keys. ReadsBeacon keys octets b) (keys_are past p m same order) reads);
      answer = beacon_unless past octets (OfBeacon (Some b)) a reset (beacon_is past p t b a m h is);
    }

none_reads : (keys : List BeaconSource) (octets : List ℕ) → IsUnread keys octets → (b : Beacon) → ReadsBeacon keys octets b → ⊥
none_reads keys octets none b r = none r.place r.by r.flags b.iv r.by_is r.reads

pub beacon_unread : (past : Past) (p : Persist) (octets : List ℕ) → IsMeaningOf past.records p → p.reset ≡ false
    → ((rows : List NetKeyRow) → IsByIndex net_index rows → by_index net_index rows ≡ rows) → IsByIndex net_index (config_of past.records).nets
    → IsUnread (beacon_keys (by_index net_index p.nets)) octets
    → IsBeaconHeard past octets (record { reset = false; beacon = None; answer = A.Unread })
beacon_unread past p octets m e same order none =
    let reset = before_reset past p false m e in
    record {
      sees = sees_beacon {octets = octets} {b = None} reset
          (none_reads (beacon_keys (config_before past).nets) octets (subst (λ keys. IsUnread keys octets) (keys_are past p m same order) none));
      answer = beacon_unless past octets (OfBeacon None) A.Unread reset refl;
    }

reset_answer : (past : Past) (octets : List ℕ) (i : Insight) → (config_before past).reset ≡ true → A.Reset ≡ answer_of node_layers past (E.Bcn octets) i
unfolding answer_of
reset_answer past octets i e = ap (λ b. cond b A.Reset (beacon_answer node_layers past i)) (sym e)

pub beacon_reset : (past : Past) (p : Persist) (octets : List ℕ) → IsMeaningOf past.records p → p.reset ≡ true
    → IsBeaconHeard past octets (record { reset = true; beacon = None; answer = A.Reset })
beacon_reset past p octets m e =
    let reset = before_reset past p true m e in
    record {
      sees = sees_nothing {event = E.Bcn octets} (ap (λ b. not b) reset);
      answer = reset_answer past octets OfNothing reset;
    }

-- Where nothing reads, no table changes.

pub quiet_more : (told : List Told) (t : TablesView) (e : Told) (i : Insight) (a : Answer) → AreTablesOf t told → e.insight ≡ i → e.entry.answer ≡ a
    → ((c : Config) (event : Event) → tables_after t c event i a ≡ t) → AreTablesOf t (told ++ e ∷ [])
quiet_more told t e i a h ei ea same =
    let by_insight = subst (λ x. AreTablesOf (tables_after t (config_of e.records) e.entry.event x e.entry.answer) (told ++ e ∷ [])) ei (goes_on t told e h) in
    let by_answer = subst (λ x. AreTablesOf (tables_after t (config_of e.records) e.entry.event i x) (told ++ e ∷ [])) ea by_insight in
    subst (λ x. AreTablesOf x (told ++ e ∷ [])) (same (config_of e.records) e.entry.event) by_answer

-- A beacon may drop own messages.
pub beacon_more : (told : List Told) (t u : TablesView) (e : Told) (c : Config) (busy : Bool) (b : Beacon) (a : Answer) → AreTablesOf t told → e.insight ≡ OfBeacon (Some b)
    → e.entry.answer ≡ a → a ≡ beacon_row c busy b → u.cache ≡ t.cache → u.parts ≡ t.parts → u.again ≡ t.again
    → u.own ≡ fold sending.after t.own (beacon_calls a) → u.ticks ≡ t.ticks → AreTablesOf u (told ++ e ∷ [])
beacon_more told t u e c busy b a h ei ea is cache parts again own ticks =
    tables_more told t u e (OfBeacon (Some b)) (beacon_row c busy b) (config_of e.records) h ei (ea ∙ is) refl cache parts again
    (own ∙ ap (λ x. fold sending.after t.own (beacon_calls x)) is) ticks

-- Time.

tick_answer : (past : Past) (ticks : ℕ) (b : Bool) → (config_before past).reset ≡ b
    → cond b A.Reset (A.Ticked (later past ticks)) ≡ answer_of node_layers past (E.Tick ticks) OfNothing
unfolding answer_of
tick_answer past ticks b e = ap (λ x. cond x A.Reset (A.Ticked (later past ticks))) (sym e)

pub passed_reset : (past : Past) (p : Persist) (ticks : ℕ) (t : TablesView) (r : Passed) → IsMeaningOf past.records p → p.reset ≡ true → AreTablesOf t past.told
    → r.answer ≡ A.Reset → r.acks ≡ [] → r.rounds.items ≡ [] → IsPassed past ticks r t
passed_reset past p ticks t r m e h answer none no_rounds =
    let reset = before_reset past p true m e in
    record {
      sees = sees_nothing {event = E.Tick ticks} refl;
      answer = answer ∙ tick_answer past ticks true reset;
      acks = none ∙ ap (λ b. cond b [] (acks_due (later past ticks) (messages past))) (sym reset);
      rounds = no_rounds ∙ ap (λ b. cond b [] (filter (has_round (later past ticks)) (own.messages past))) (sym reset);
      tables = λ x i a. tables_more past.told t t x OfNothing A.Reset (config_of x.records) h i (a ∙ answer) refl refl refl refl refl refl;
    }

pub passed : (past : Past) (p : Persist) (ticks now : ℕ) (t u : TablesView) (r : Passed) → IsMeaningOf past.records p → p.reset ≡ false
    → AreTablesOf t past.told → now ≡ min (2 ^ 48) (t.ticks + ticks) → r.answer ≡ A.Ticked now → r.acks ≡ acks_due now t.parts
    → r.rounds.items ≡ filter (has_round now) t.own
    → u.cache ≡ t.cache → u.parts ≡ after t.parts (tick now) → u.again ≡ t.again → u.own ≡ sending.after t.own (sending.due now) → u.ticks ≡ now
    → IsPassed past ticks r u
passed past p ticks now t u r m e h is answer due rounds cache parts again own_rows time =
    let reset = before_reset past p false m e in
    let at : now ≡ later past ticks = is ∙ ap (λ n. min (2 ^ 48) (n + ticks)) h.ticks in
    record {
      sees = sees_nothing {event = E.Tick ticks} refl;
      answer = answer ∙ ap A.Ticked at ∙ tick_answer past ticks false reset;
      acks = due ∙ ap (λ n. acks_due n t.parts) at ∙ ap (λ ps. acks_due (later past ticks) ps) h.parts
          ∙ ap (λ b. cond b [] (acks_due (later past ticks) (messages past))) (sym reset);
      rounds = rounds ∙ ap (λ n. filter (has_round n) t.own) at ∙ ap (λ rows. filter (has_round (later past ticks)) rows) h.own
          ∙ ap (λ b. cond b [] (filter (has_round (later past ticks)) (own.messages past))) (sym reset);
      tables = λ x i a. tables_more past.told t u x OfNothing (A.Ticked now) (config_of x.records) h i (a ∙ answer) refl cache parts again own_rows time;
    }
