-- What octets are read as is one.
use Rattle.std.proofs.Common.{◌≡◌, ◌∙◌, ℕ, ◌+◌, ◌<◌, ◌≤◌, Bool, true, false, true≢false, List, [], ◌∷◌, ◌++◌, map, Option, Some, None, refl, sym, ap, subst, arith}
use Rattle.std.specs.Prelude.{IsFalse, MatchBool, MatchOption, not}
use Rattle.std.specs.List.{slice_get}
use native.Mathlib.Decide.{dec_le}
use Rattle.layer_definitions.specs.Beacon.{BeaconSource, ReadsBeacon, ReadsBeaconUnder, beacon_of}
use Rattle.layer_definitions.specs.KeyRefresh.{beacon_keys}
use Rattle.layer_definitions.specs.Labels.{is_virtual, with_label}
use Rattle.layer_definitions.specs.Network.{Reads, ReadsUnder}
use Rattle.layer_definitions.specs.Upper.{Opens, OpensUnder}
use Rattle.layer_definitions.proofs.NetworkLaws.{reading-one}
use Rattle.layer_definitions.proofs.UpperLaws.{opening-one}
use Rattle.lower_transport.proofs.OneReading.{one}
use Rattle.net_beacon.proofs.Texts.{one_reading}
use Rattle.mesh_base.specs.declared.beacon.Beacon.{Beacon}
use Rattle.mesh_base.specs.declared.fields.Heard.{Heard}
use Rattle.mesh_base.specs.declared.fields.NetFields.{NetFields}
use Rattle.mesh_base.specs.declared.keys.UpperKey.{UpperKey}
use Rattle.mesh_base.specs.declared.lower.Lower.{Lower}
use Rattle.mesh_base.specs.declared.lower.Lower.TheVariants.{Access, AccessPart, Control, ControlPart}
use Rattle.mesh_base.specs.declared.pair.Name.{Name}
use Rattle.mesh_base.specs.declared.upper.UpperFields.{UpperFields}
use Rattle.mesh_types.specs.declared.events.Event.{Event}
use Rattle.mesh_types.specs.declared.events.Event.TheVariants as E
use Rattle.mesh_types.specs.declared.history.Entry.{Entry}
use Rattle.record_types.specs.declared.records.StoreRecord.{StoreRecord}
use Rattle.store_definitions.specs.Config.{Config}
use Rattle.store_definitions.specs.Numbers.{filled}
use Rattle.event_definitions.specs.Answers.{config_before, lower_answer, message_name, network_answer}
use Rattle.event_definitions.specs.Handling.{AreHandled, past_of, records_after}
use Rattle.event_definitions.specs.History.{Insight, OfBeacon, OfNothing, OfPdu, Opening, Past, Reading, Told}
use Rattle.event_definitions.specs.Layers.{Layers}
use Rattle.event_definitions.specs.Readings.{IsBeacon, IsLower, IsLowerPdu, IsOpened, IsOpenedByLabel, IsOpenedFor, IsOpenedUnder, IsOpening, IsOpeningOf, IsReading, Sees, fields_heard, has_octets, keys_heard, keys_tried, labels_tried, sees_beacon, sees_nothing, sees_pdu}
use Rattle.event_definitions.specs.Role.{Role, node_role}
use Rattle.report_definitions.specs.Record.{Life}
use Rattle.run_definitions.specs.Order.{Step}
use Rattle.run_definitions.specs.RunOf.{LifeOf}
use Rattle.node_safety.specs.Readings.{SeesOnce}

some_once : {A : Type 0} (a b : A) → Some a ≡ Some b → a ≡ b
some_once a b e = cc

-- two places of which neither is before the other
same_place : (p q : ℕ) → (p < q → ⊥) → (q < p → ⊥) → p ≡ q
same_place p q below above = by_test (dec_le (p + 1) q) (dec_le (q + 1) p) where
  by_test : Dec (p + 1 ≤ q) → Dec (q + 1 ≤ p) → p ≡ q
  by_test (yes lt) other = absurd (below (omega (arith, lt)))
  by_test (no ge) (yes lt) = absurd (above (omega (arith, lt)))
  by_test (no ge) (no le) = omega (arith, ge, le)

-- a value of a relation, or one that there is none of
pub match_once : {A B : Type 0} (o : Option A) (P : B → Type 0) (none x y : B) → ((x y : B) → P x → P y → x ≡ y) → MatchOption o (P x) (λ a. x ≡ none) → MatchOption o (P y) (λ a. y ≡ none) → x ≡ y
match_once None P none x y once h k = once x y h k
match_once (Some a) P none x y once h k = h ∙ sym k

bool_once : {B : Type 0} (b : Bool) (P Q : B → Type 0) (x y : B) → ((x y : B) → P x → P y → x ≡ y) → ((x y : B) → Q x → Q y → x ≡ y) → MatchBool b (P x) (Q x) → MatchBool b (P y) (Q y) → x ≡ y
bool_once true P Q x y f g h k = f x y h k
bool_once false P Q x y f g h k = g x y h k

-- the network layer
pub reads_once : (keys : List Heard) (current : ℕ) (octets : List ℕ) (f g : NetFields) (p q : ℕ) (a b : Heard) → Reads keys current octets f p a → Reads keys current octets g q b → (f ≡ g) × (a ≡ b)
reads_once keys current octets f g p q a b r s =
    let place : p ≡ q = same_place p q (λ lt. s.first p a f lt r.key r.reads) (λ lt. r.first q b g lt s.key s.reads) in
    let by : a ≡ b = some_once a b (sym r.key ∙ ap (slice_get keys) place ∙ s.key) in
    (reading-one a.material current octets f g r.reads (subst (λ (h : Heard). ReadsUnder h.material current octets g) (sym by) s.reads), by)

reading_once : (layers : Layers) (past : Past) (octets : List ℕ) (x y : Option Reading) → IsReading layers past octets x → IsReading layers past octets y → x ≡ y
reading_once layers past octets None None h k = refl
reading_once layers past octets None (Some s) h (q, k) = absurd (h s.fields q s.by k)
reading_once layers past octets (Some r) None (p, h) k = absurd (k r.fields p r.by h)
reading_once layers past octets (Some r) (Some s) (p, h) (q, k) =
    let e = reads_once (keys_heard layers past) (config_before past).iv.current octets r.fields s.fields p q r.by s.by h k in
    λ i. Some (record { fields = e.0 i; by = e.1 i })

-- the lower transport layer
pub lower_pdu_once : (f : NetFields) (x y : Option Lower) → IsLowerPdu f x → IsLowerPdu f y → x ≡ y
lower_pdu_once f None None h k = refl
lower_pdu_once f None (Some m) h k = absurd (h m k)
lower_pdu_once f (Some l) None h k = absurd (k l h)
lower_pdu_once f (Some l) (Some m) h k = ap Some (one f.ctl f.tpdu l m h k)

lower_once : (past : Past) (r : Option Reading) (x y : Option Lower) → IsLower past r x → IsLower past r y → x ≡ y
lower_once past None x y h k = h ∙ sym k
lower_once past (Some r) x y h k = match_once (network_answer past r) (IsLowerPdu r.fields) None x y (lower_pdu_once r.fields) h k

-- the upper transport layer
opens_once : (keys : List UpperKey) (f : UpperFields) (upper : List ℕ) (p q : ℕ) (v w : List ℕ) → Opens keys f upper p v → Opens keys f upper q w → (p ≡ q) × (v ≡ w)
opens_once keys f upper p q v w r s =
    let place : p ≡ q = same_place p q (λ lt. s.first p r.key v lt r.key_is r.opens) (λ lt. r.first q s.key w lt s.key_is s.opens) in
    let key : r.key ≡ s.key = some_once r.key s.key (sym r.key_is ∙ ap (slice_get keys) place ∙ s.key_is) in
    (place, opening-one r.key f upper v w r.opens (subst (λ k. OpensUnder k f upper w) (sym key) s.opens))

pub under_once : (keys : List UpperKey) (f : UpperFields) (upper : List ℕ) (x y : Option Opening) → IsOpenedUnder keys f upper x → IsOpenedUnder keys f upper y → x ≡ y
under_once keys f upper None None h k = refl
under_once keys f upper None (Some u) h (q, at, label, k) = absurd (h q k.key u.payload k.key_is k.opens)
under_once keys f upper (Some o) None (p, at, label, h) k = absurd (k p h.key o.payload h.key_is h.opens)
under_once keys f upper (Some o) (Some u) (p, at, label, h) (q, at', label', k) =
    let e = opens_once keys f upper p q o.payload u.payload h k in
    let key : o.key ≡ u.key = some_once o.key u.key (sym at ∙ ap (slice_get keys) e.0 ∙ at') in
    let none : o.label ≡ u.label = label ∙ sym label' in
    λ i. Some (record { key = key i; label = none i; payload = e.1 i })

label_once : (keys : List UpperKey) (labels : List (List ℕ)) (f : UpperFields) (upper : List ℕ) (x y : Option Opening) → IsOpenedByLabel keys labels f upper x → IsOpenedByLabel keys labels f upper y → x ≡ y
label_once keys labels f upper None None h k = refl
label_once keys labels f upper None (Some u) h (b, q, at, label, k) = absurd (h b k.label k.label_is k.address q k.opens.key u.payload k.opens.key_is k.opens.opens)
label_once keys labels f upper (Some o) None (a, p, at, label, h) k = absurd (k a h.label h.label_is h.address p h.opens.key o.payload h.opens.key_is h.opens.opens)
label_once keys labels f upper (Some o) (Some u) (a, p, at, label, h) (b, q, at', label', k) =
    let place : a ≡ b = same_place a b (λ lt. k.first a h.label lt h.label_is h.address p h.opens.key o.payload h.opens.key_is h.opens.opens)
    (λ lt. h.first b k.label lt k.label_is k.address q k.opens.key u.payload k.opens.key_is k.opens.opens) in
    let held : h.label ≡ k.label = some_once h.label k.label (sym h.label_is ∙ ap (slice_get labels) place ∙ k.label_is) in
    let e = opens_once keys (with_label h.label f) upper p q o.payload u.payload h.opens (subst (λ l. Opens keys (with_label l f) upper q u.payload) (sym held) k.opens) in
    let key : o.key ≡ u.key = some_once o.key u.key (sym at ∙ ap (slice_get keys) e.0 ∙ at') in
    let told : o.label ≡ u.label = sym label ∙ ap (slice_get labels) place ∙ label' in
    λ i. Some (record { key = key i; label = told i; payload = e.1 i })

opened_for_once : (c : Config) (keys : List UpperKey) (f : UpperFields) (upper : List ℕ) (x y : Option Opening) → IsOpenedFor c keys f upper x → IsOpenedFor c keys f upper y → x ≡ y
opened_for_once c keys f upper x y h k =
    bool_once (is_virtual f.dst) (IsOpenedByLabel keys (labels_tried c) f upper) (IsOpenedUnder keys f upper) x y (label_once keys (labels_tried c) f upper) (under_once keys f upper) h k

opened_once : (layers : Layers) (past : Past) (r : Reading) (n : Name) (low : Lower) (x y : Option Opening) → IsOpened layers past r n low x → IsOpened layers past r n low y → x ≡ y
opened_once layers past r n (Access akf aid upper) x y h k =
    let c = config_before past in opened_for_once c (keys_tried c r akf aid) (fields_heard r n false) upper x y h k
opened_once layers past r n (AccessPart akf aid szmic seq_zero seg_o seg_n piece) x y h k =
    let c = config_before past in
    opened_for_once c (keys_tried c r akf aid) (fields_heard r n szmic) (layers.whole past n (AccessPart akf aid szmic seq_zero seg_o seg_n piece)) x y h k
opened_once layers past r n (Control opcode params) x y h k = h ∙ sym k
opened_once layers past r n (ControlPart opcode seq_zero seg_o seg_n piece) x y h k = h ∙ sym k

opening_of_once : (layers : Layers) (past : Past) (r : Reading) (low : Lower) (name : Option Name) (x y : Option Opening) → IsOpeningOf layers past r low name x → IsOpeningOf layers past r low name y → x ≡ y
opening_of_once layers past r low None x y h k = h ∙ sym k
opening_of_once layers past r low (Some n) x y h k = match_once (lower_answer layers past r low n) (IsOpened layers past r n low) None x y (opened_once layers past r n low) h k

opening_once : (layers : Layers) (past : Past) (r : Option Reading) (low : Option Lower) (x y : Option Opening) → IsOpening layers past r low x → IsOpening layers past r low y → x ≡ y
opening_once layers past None low x y h k = h ∙ sym k
opening_once layers past (Some r) None x y h k = h ∙ sym k
opening_once layers past (Some r) (Some low) x y h k = opening_of_once layers past r low (message_name r.fields low) x y h k

-- beacons
beacon_once : (keys : List BeaconSource) (octets : List ℕ) (b c : Beacon) → ReadsBeacon keys octets b → ReadsBeacon keys octets c → b ≡ c
beacon_once keys octets b c r s =
    let place : r.place ≡ s.place = same_place r.place s.place (λ lt. s.first r.place r.by r.flags b.iv lt r.by_is r.reads) (λ lt. r.first s.place s.by s.flags c.iv lt s.by_is s.reads) in
    let by : r.by ≡ s.by = some_once r.by s.by (sym r.by_is ∙ ap (slice_get keys) place ∙ s.by_is) in
    let e = one_reading r.by.key octets r.flags s.flags b.iv c.iv r.reads (subst (λ (x : BeaconSource). ReadsBeaconUnder x.key octets s.flags c.iv) (sym by) s.reads) in
    r.beacon ∙ (λ i. beacon_of (by i) (e.0 i) (e.1 i)) ∙ sym s.beacon

is_beacon_once : (past : Past) (octets : List ℕ) (x y : Option Beacon) → IsBeacon past octets x → IsBeacon past octets y → x ≡ y
is_beacon_once past octets None None h k = refl
is_beacon_once past octets None (Some c) h k = absurd (h c k)
is_beacon_once past octets (Some b) None h k = absurd (k b h)
is_beacon_once past octets (Some b) (Some c) h k = ap Some (beacon_once (beacon_keys (config_before past).nets) octets b c h k)

-- what an event is seen with
has_none : (b : Bool) → IsFalse b → not b ≡ false → ⊥
has_none true h e = true≢false h
has_none false h e = true≢false e

pdu_once : (layers : Layers) (past : Past) (octets : List ℕ) (r : Option Reading) (low : Option Lower) (o : Option Opening) → IsFalse (config_before past).reset → IsReading layers past octets r → IsLower past r low → IsOpening layers past r low o
    → (other : Insight) → Sees layers past (E.Net octets) other → OfPdu r low o ≡ other
pdu_once layers past octets r low o runs h l u _ (sees_pdu {reading = s} {low = m} {opening = v} runs' h' l' u') =
    let reading : r ≡ s = reading_once layers past octets r s h h' in
    let lower : low ≡ m = lower_once past r low m l (subst (λ x. IsLower past x m) (sym reading) l') in
    let opening : o ≡ v = opening_once layers past r low o v u (subst (λ (x : Option Reading × Option Lower). IsOpening layers past x.0 x.1 v) (λ i. (sym reading i, sym lower i)) u') in
    λ i. OfPdu (reading i) (lower i) (opening i)
pdu_once layers past octets r low o runs h l u _ (sees_nothing none) = absurd (has_none (config_before past).reset runs none)

bcn_once : (layers : Layers) (past : Past) (octets : List ℕ) (b : Option Beacon) → IsFalse (config_before past).reset → IsBeacon past octets b
    → (other : Insight) → Sees layers past (E.Bcn octets) other → OfBeacon b ≡ other
bcn_once layers past octets b runs h _ (sees_beacon {b = c} runs' k) = ap OfBeacon (is_beacon_once past octets b c h k)
bcn_once layers past octets b runs h _ (sees_nothing none) = absurd (has_none (config_before past).reset runs none)

nothing_once : (layers : Layers) (past : Past) (event : Event) (other : Insight) → has_octets past event ≡ false → Sees layers past event other → OfNothing ≡ other
nothing_once layers past _ _ none (sees_pdu runs h l u) = absurd (has_none (config_before past).reset runs none)
nothing_once layers past _ _ none (sees_beacon runs h) = absurd (has_none (config_before past).reset runs none)
nothing_once layers past _ _ none (sees_nothing other) = refl

pub sees_once : (layers : Layers) → SeesOnce (node_role layers)
sees_once layers past _ _ other (sees_pdu {octets = octets} {reading = r} {low = low} {opening = o} runs h l u) k = pdu_once layers past octets r low o runs h l u other k
sees_once layers past _ _ other (sees_beacon {octets = octets} {b = b} runs h) k = bcn_once layers past octets b runs h other k
sees_once layers past _ _ other (sees_nothing {event = event} none) k = nothing_once layers past event other none k

-- the entries of a life are told in one way
pub told_once : (role : Role) → SeesOnce role → (records : List StoreRecord) (before ts us : List Told) → map (λ t. t.entry) ts ≡ map (λ t. t.entry) us → AreHandled role records before ts → AreHandled role records before us
    → ts ≡ us
told_once role once records before [] [] e h k = refl
told_once role once records before [] (u ∷ us) e h k = cc
told_once role once records before (t ∷ ts) [] e h k = cc
told_once role once records before (t ∷ ts) (u ∷ us) e h k =
    let entry : t.entry ≡ u.entry = cc in
    let rest : map (λ (x : Told). x.entry) ts ≡ map (λ (x : Told). x.entry) us = cc in
    let found : t.records ≡ u.records = h.0 ∙ ap (λ (x : Entry). filled x.fills records) entry ∙ sym k.0 in
    let seen : role.sees (past_of before t) t.entry.event u.insight =
    subst (λ (x : Entry × List StoreRecord). role.sees (record { told = before; records = x.1 }) x.0.event u.insight) (λ i. (sym entry i, sym found i)) k.1.sees in
    let insight : t.insight ≡ u.insight = once (past_of before t) t.entry.event t.insight u.insight h.1.sees seen in
    let same : t ≡ u = λ i. record { entry = entry i; insight = insight i; records = found i } in
    let after = told_once role once (records_after role (past_of before t) t) (before ++ t ∷ []) ts us rest h.2
    (subst (λ (x : Told). AreHandled role (records_after role (past_of before x) x) (before ++ x ∷ []) us) (sym same) k.2) in
    λ i. same i ∷ after i

-- however a life of this role is one of a plan
pub life_once : (role : Role) → SeesOnce role → (plan : List Step) (over : List StoreRecord) (l : Life) (next other : List StoreRecord) (h : LifeOf role plan over l next) (k : LifeOf role plan over l other) → h.told ≡ k.told
life_once role once plan over l next other h k = told_once role once over [] h.told k.told (h.entries ∙ sym k.entries) h.handled k.handled
