-- The nonces of a line: of which layer and which pair each is, and whose.
use Rattle.std.proofs.Common.{◌≡◌, ◌≢◌, ℕ, ◌/◌, ◌%◌, ◌^◌, ◌<◌, Bool, true, false, not, cond, eqb, List, [], ◌∷◌, ◌++◌, get_or, refl, ap, sym, ◌∙◌, arith}
use Rattle.std.specs.List.{AllByRecursion, filter, flat_map}
use Rattle.cipher_definitions.proofs.Octets.{two_back}
use Rattle.layer_definitions.proofs.OctetLaws.{three_octets_once}
use Rattle.layer_definitions.specs.Network.{network_nonce}
use Rattle.layer_definitions.specs.Upper.{upper_nonce}
use Rattle.mesh_base.specs.declared.address.Address.{Address}
use Rattle.mesh_base.specs.declared.fields.NetFields.{NetFields}
use Rattle.mesh_base.specs.declared.fields.NetMaterial.{NetMaterial}
use Rattle.mesh_base.specs.declared.keys.UpperKey.{UpperKey}
use Rattle.mesh_base.specs.declared.keys.UpperKey.TheVariants as U
use Rattle.mesh_base.specs.declared.pair.Pair.{Pair}
use Rattle.mesh_types.specs.declared.events.Event.{Event}
use Rattle.mesh_types.specs.declared.jobs.Job.{Job}
use Rattle.mesh_types.specs.declared.lines.Outcome.{Outcome}
use Rattle.store_definitions.specs.Config.{Config, is_element}
use Rattle.run_definitions.specs.Lines.{Shows, shows_bcn, shows_ctl, shows_first, shows_late, shows_long, shows_msg, shows_relay, shows_rep, shows_seg, shows_sent, shows_sent_long, shows_spent}
use Rattle.report_definitions.specs.Record.{Shown}
use Rattle.run_definitions.specs.Seals.{message_fields, own_fields, own_upper_fields}
use Rattle.run_definitions.specs.Uses.{Use, network_use, nonce_source, seals_of}
use Rattle.run_safety.proofs.Lists.{Apart}
use Rattle.run_safety.specs.SafeRole.{Foreign}
use Rattle.run_safety.proofs.Walking.{ForeignJob, ShownFits, Tag, network_tag, tags, tags_of, upper_tag}

-- the octets of a nonce that tell its layer, its SEQ and its IV Index
pub record HasTag (nonce : List ℕ) (t : Tag) : Type 0 where
  pub layer : eqb (get_or nonce 0 0) 0 ≡ not t.upper
  pub seq_high : get_or nonce 2 0 ≡ t.pair.seq / 65536 % 256
  pub seq_middle : get_or nonce 3 0 ≡ t.pair.seq / 256 % 256
  pub seq_low : get_or nonce 4 0 ≡ t.pair.seq % 256
  pub iv_first : get_or nonce 9 0 ≡ t.pair.iv / 16777216 % 256
  pub iv_second : get_or nonce 10 0 ≡ t.pair.iv / 65536 % 256
  pub iv_third : get_or nonce 11 0 ≡ t.pair.iv / 256 % 256
  pub iv_last : get_or nonce 12 0 ≡ t.pair.iv % 256

network_has_tag : (f : NetFields) → HasTag (network_nonce f) (network_tag (record { iv = f.iv; seq = f.seq }))
network_has_tag f = record {
  layer = refl;
  seq_high = refl;
  seq_middle = refl;
  seq_low = refl;
  iv_first = refl;
  iv_second = refl;
  iv_third = refl;
  iv_last = refl;
}

upper_has_tag : (key : UpperKey) (pair : Pair) (src dst : Address) → HasTag (upper_nonce key (own_upper_fields pair src dst)) (upper_tag pair)
upper_has_tag (U.Device key) pair src dst = record {
  layer = refl;
  seq_high = refl;
  seq_middle = refl;
  seq_low = refl;
  iv_first = refl;
  iv_second = refl;
  iv_third = refl;
  iv_last = refl;
}
upper_has_tag (U.App index aid key) pair src dst = record {
  layer = refl;
  seq_high = refl;
  seq_middle = refl;
  seq_low = refl;
  iv_first = refl;
  iv_second = refl;
  iv_third = refl;
  iv_last = refl;
}

-- a pair within its widths
pub record Wide (p : Pair) : Type 0 where
  pub seq : p.seq < 2 ^ 24
  pub iv : p.iv < 2 ^ 32

iv_by_octets : (a b : ℕ) → a < 2 ^ 32 → b < 2 ^ 32 → a / 16777216 % 256 ≡ b / 16777216 % 256 → a / 65536 % 256 ≡ b / 65536 % 256
    → a / 256 % 256 ≡ b / 256 % 256 → a % 256 ≡ b % 256 → a ≡ b
iv_by_octets a b h k e f g i = omega arith

not_same : (a b : Bool) → not a ≡ not b → a ≡ b
not_same true true e = refl
not_same false false e = refl
not_same true false e = absurd cc
not_same false true e = absurd cc

-- one nonce has one tag
tag_of_nonce : (n m : List ℕ) (s t : Tag) → n ≡ m → HasTag n s → HasTag m t → Wide s.pair → Wide t.pair → s ≡ t
tag_of_nonce n m s t e h k v w =
    let at : (i : ℕ) → get_or n i 0 ≡ get_or m i 0 = λ i. ap (λ l. get_or l i 0) e in
    let layer : s.upper ≡ t.upper = not_same s.upper t.upper (sym h.layer ∙ ap (λ x. eqb x 0) (at 0) ∙ k.layer) in
    let seq : s.pair.seq ≡ t.pair.seq =
    three_octets_once s.pair.seq t.pair.seq v.seq w.seq (sym h.seq_high ∙ at 2 ∙ k.seq_high) (sym h.seq_middle ∙ at 3 ∙ k.seq_middle) (sym h.seq_low ∙ at 4 ∙ k.seq_low) in
    let iv : s.pair.iv ≡ t.pair.iv =
    iv_by_octets s.pair.iv t.pair.iv v.iv w.iv (sym h.iv_first ∙ at 9 ∙ k.iv_first) (sym h.iv_second ∙ at 10 ∙ k.iv_second) (sym h.iv_third ∙ at 11 ∙ k.iv_third)
    (sym h.iv_last ∙ at 12 ∙ k.iv_last) in
    same_tag s t layer iv seq
  where
    same_tag : (s t : Tag) → s.upper ≡ t.upper → s.pair.iv ≡ t.pair.iv → s.pair.seq ≡ t.pair.seq → s ≡ t
    same_tag s t e f g = λ i. record { upper = e i; pair = record { iv = f i; seq = g i } }

-- Uses with the tags of those that are of this node; the others have a foreign source.

abbrev pub is_own : Config → Use → Bool
is_own own u = is_element own (nonce_source u.nonce)

pub data Tagged (own : Config) : List Use → List Tag → Type 0 where
  no_use : Tagged own [] []
  own_use : {u : Use} {t : Tag} {us : List Use} {ts : List Tag} → HasTag u.nonce t → Tagged own us ts → Tagged own (u ∷ us) (t ∷ ts)
  foreign_use : {u : Use} {us : List Use} {ts : List Tag} → is_own own u ≡ false → Tagged own us ts → Tagged own (u ∷ us) ts

pub tagged_append : (own : Config) {us vs : List Use} {ts ss : List Tag} → Tagged own us ts → Tagged own vs ss → Tagged own (us ++ vs) (ts ++ ss)
tagged_append own no_use k = k
tagged_append own (own_use h hs) k = own_use h (tagged_append own hs k)
tagged_append own (foreign_use h hs) k = foreign_use h (tagged_append own hs k)

relayed_foreign : (own : Config) (m : NetMaterial) (f : NetFields) → Foreign own f.src → is_own own (network_use f m) ≡ false
relayed_foreign own m f h = rw (two_back f.src.0 h.1) h.0

line_tagged : (own : Config) (event : Event) (job : Job) (outcome : Outcome) → Shows event job outcome → ForeignJob own job → Tagged own (seals_of job outcome) (tags_of outcome)
unfolding seals_of
line_tagged own event _ _ (shows_ctl {ttl = ttl} {src = src} {dst = dst} {tpdu = tpdu} {pair = pair}) h = own_use (network_has_tag (own_fields pair true ttl src dst tpdu)) no_use
line_tagged own event _ _ (shows_msg {key = key} {ttl = ttl} {src = src} {dst = dst} {payload = payload} {pair = pair} short) h =
    own_use (upper_has_tag key pair src dst) (own_use (network_has_tag (message_fields key pair ttl src dst payload)) no_use)
line_tagged own event _ _ (shows_long {key = key} {src = src} {dst = dst} {pair = pair} long) h = own_use (upper_has_tag key pair src dst) no_use
line_tagged own event _ _ (shows_sent {key = key} {ttl = ttl} {src = src} {dst = dst} {payload = payload} {pair = pair} short) h =
    own_use (upper_has_tag key pair src dst) (own_use (network_has_tag (message_fields key pair ttl src dst payload)) no_use)
line_tagged own event _ _ (shows_sent_long {key = key} {src = src} {dst = dst} {pair = pair} long) h = own_use (upper_has_tag key pair src dst) no_use
line_tagged own event _ _ (shows_first {s = s} first) h = own_use (network_has_tag (own_fields s.name.pair false s.ttl s.name.src s.dst s.tpdu)) no_use
line_tagged own event _ _ (shows_seg {s = s} {pair = pair} later intime) h = own_use (network_has_tag (own_fields pair false s.ttl s.name.src s.dst s.tpdu)) no_use
line_tagged own event _ _ (shows_late later late) h = no_use
line_tagged own event _ _ (shows_relay {m = m} {f = f}) h = foreign_use (relayed_foreign own m f h) no_use
line_tagged own event _ _ shows_rep h = no_use
line_tagged own event _ _ shows_bcn h = no_use
line_tagged own event _ _ (shows_spent draws) h = no_use

pub lines_tagged : (own : Config) (lines : List Shown) → AllByRecursion (ShownFits own) lines → Tagged own (flat_map (λ s. seals_of s.job s.outcome) lines) (tags lines)
lines_tagged own [] h = no_use
lines_tagged own (s ∷ lines) h = tagged_append own (line_tagged own s.entry.event s.job s.outcome h.0.0 h.0.1) (lines_tagged own lines h.1)

-- Where no tag stands twice, no nonce of this node does.

abbrev pub NoClash : Use → Use → Type 0
NoClash u v = u.nonce ≡ v.nonce → ⊥

no_clash_with : (own : Config) (u : Use) (t : Tag) {us : List Use} {ts : List Tag} → HasTag u.nonce t → Wide t.pair → Tagged own us ts
    → AllByRecursion (λ s. t ≢ s) ts → AllByRecursion (λ (s : Tag). Wide s.pair) ts → AllByRecursion (NoClash u) (filter (is_own own) us)
no_clash_with own u t h w no_use k v = tt
no_clash_with own u t h w (own_use {u = x} {t = s} {us = us} g gs) k v =
    clash_pick (is_own own x) x _ (λ e. k.0 (tag_of_nonce u.nonce x.nonce t s e h g w v.0)) (no_clash_with own u t h w gs k.1 v.1)
  where
    clash_pick : (b : Bool) (x : Use) (xs : List Use) → NoClash u x → AllByRecursion (NoClash u) xs → AllByRecursion (NoClash u) (cond b (x ∷ xs) xs)
    clash_pick true x xs h k = (h, k)
    clash_pick false x xs h k = k
no_clash_with own u t h w (foreign_use {u = x} e gs) k v = rw e (no_clash_with own u t h w gs k v)

pub no_clash : (own : Config) {us : List Use} {ts : List Tag} → Tagged own us ts → Apart (λ s t. s ≢ t) ts → AllByRecursion (λ (s : Tag). Wide s.pair) ts
    → Apart NoClash (filter (is_own own) us)
no_clash own no_use k v = tt
no_clash own (own_use {u = u} {t = t} {us = us} h hs) k v =
    apart_pick (is_own own u) u _ (no_clash_with own u t h v.0 hs k.0 v.1) (no_clash own hs k.1 v.1)
  where
    apart_pick : (b : Bool) (x : Use) (xs : List Use) → AllByRecursion (NoClash x) xs → Apart NoClash xs → Apart NoClash (cond b (x ∷ xs) xs)
    apart_pick true x xs h k = (h, k)
    apart_pick false x xs h k = k
no_clash own (foreign_use {u = u} e hs) k v = rw e (no_clash own hs k v)
