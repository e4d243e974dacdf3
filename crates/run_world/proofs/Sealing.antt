-- The seals of lines, each as a step.
use Rattle.std.proofs.Common.{◌≡◌, ◌≢◌, Bool, true, false, cond, List, [], ◌∷◌, ◌++◌, refl, ap, sym, ◌∙◌, append_assoc, append-nil}
use Rattle.std.specs.List.{AllByRecursion, Contains, filter, flat_map}
use Rattle.std.proofs.lemmas.List.{map-append}
use Rattle.std.proofs.lemmas.List.Elements.{All-push}
use Rattle.cipher_definitions.proofs.Octets.{two_back}
use Rattle.layer_definitions.specs.Network.{network_nonce}
use Rattle.layer_definitions.specs.Upper.{upper_nonce}
use Rattle.mesh_base.specs.declared.address.Address.{Address}
use Rattle.mesh_base.specs.declared.fields.NetFields.{NetFields}
use Rattle.mesh_base.specs.declared.fields.NetMaterial.{NetMaterial}
use Rattle.mesh_base.specs.declared.keys.UpperKey.{UpperKey}
use Rattle.mesh_base.specs.declared.pair.Pair.{Pair}
use Rattle.mesh_types.specs.declared.events.Event.{Event}
use Rattle.mesh_types.specs.declared.jobs.Job.{Job}
use Rattle.mesh_types.specs.declared.lines.Outcome.{Outcome}
use Rattle.mesh_world.specs.World.{AreAllowed, HasNonce, IsOf, IsUnused, Layer, Sealing, World, WorldStep, after, after_all}
use Rattle.mesh_world.specs.World as world
use Rattle.mesh_world.specs.World.Layer.{Network, Upper}
use Rattle.mesh_world.specs.World.WorldStep.{Seal}
use Rattle.report_definitions.specs.Record.{Shown}
use Rattle.run_definitions.specs.Lines.{Shows, shows_bcn, shows_ctl, shows_first, shows_late, shows_long, shows_msg, shows_relay, shows_rep, shows_seg, shows_sent, shows_sent_long, shows_spent}
use Rattle.run_definitions.specs.Seals.{message_fields, own_fields, own_upper_fields}
use Rattle.run_definitions.specs.Uses.{Use, network_use, seals_of}
use Rattle.run_safety.proofs.Lists.{Apart}
use Rattle.run_safety.proofs.Nonces.{is_own}
use Rattle.run_safety.specs.SafeRole.{Foreign}
use Rattle.run_safety.proofs.Walking.{ForeignJob, ShownFits, Tag, tags, tags_of}
use Rattle.run_world.specs.Steps.{IsOn}
use Rattle.store_definitions.specs.Config.{Config}

-- A tag as a layer and a pair.

abbrev pub layer_of : Bool → Layer
layer_of true = Upper
layer_of false = Network

layers_apart : (a b : Bool) → layer_of a ≡ layer_of b → a ≡ b
layers_apart true true e = refl
layers_apart false false e = refl
layers_apart true false e = absurd (let other : Upper ≡ Network = e in cc)
layers_apart false true e = absurd (let other : Network ≡ Upper = e in cc)

same_tag : (s t : Tag) → s.upper ≡ t.upper → s.pair ≡ t.pair → s ≡ t
same_tag s t e f = λ i. record { upper = e i; pair = f i }

abbrev sealing : Tag → Use → Sealing
sealing t u = record { layer = layer_of t.upper; pair = t.pair; made = u }

-- Uses with the tags of those that are of this node's lines, where each nonce is of its layer and its pair; the others have a foreign source.
pub data SealedBy (own : Config) : List Use → List Tag → Type 0 where
  no_seal : SealedBy own [] []
  own_seal : {u : Use} {t : Tag} {us : List Use} {ts : List Tag} → HasNonce (layer_of t.upper) t.pair u.nonce → SealedBy own us ts
      → SealedBy own (u ∷ us) (t ∷ ts)
  other_seal : {u : Use} {us : List Use} {ts : List Tag} → is_own own u ≡ false → SealedBy own us ts → SealedBy own (u ∷ us) ts

sealed_append : (own : Config) {us vs : List Use} {ts ss : List Tag} → SealedBy own us ts → SealedBy own vs ss → SealedBy own (us ++ vs) (ts ++ ss)
sealed_append own no_seal k = k
sealed_append own (own_seal h hs) k = own_seal h (sealed_append own hs k)
sealed_append own (other_seal h hs) k = other_seal h (sealed_append own hs k)

by_network : (f : NetFields) (p : Pair) → f.iv ≡ p.iv → f.seq ≡ p.seq → HasNonce Network p (network_nonce f)
by_network f p e g = (f, e, g, refl)

by_upper : (key : UpperKey) (p : Pair) (src dst : Address) → HasNonce Upper p (upper_nonce key (own_upper_fields p src dst))
by_upper key p src dst = (key, own_upper_fields p src dst, refl, refl)

relayed_foreign : (own : Config) (m : NetMaterial) (f : NetFields) → Foreign own f.src → is_own own (network_use f m) ≡ false
relayed_foreign own m f h = rw (two_back f.src.0 h.1) h.0

line_sealed : (own : Config) (event : Event) (job : Job) (outcome : Outcome) → Shows event job outcome → ForeignJob own job
    → SealedBy own (seals_of job outcome) (tags_of outcome)
unfolding seals_of
line_sealed own event _ _ (shows_ctl {ttl = ttl} {src = src} {dst = dst} {tpdu = tpdu} {pair = pair}) h =
    own_seal (by_network (own_fields pair true ttl src dst tpdu) pair refl refl) no_seal
line_sealed own event _ _ (shows_msg {key = key} {ttl = ttl} {src = src} {dst = dst} {payload = payload} {pair = pair} short) h =
    own_seal (by_upper key pair src dst) (own_seal (by_network (message_fields key pair ttl src dst payload) pair refl refl) no_seal)
line_sealed own event _ _ (shows_long {key = key} {src = src} {dst = dst} {pair = pair} long) h = own_seal (by_upper key pair src dst) no_seal
line_sealed own event _ _ (shows_sent {key = key} {ttl = ttl} {src = src} {dst = dst} {payload = payload} {pair = pair} short) h =
    own_seal (by_upper key pair src dst) (own_seal (by_network (message_fields key pair ttl src dst payload) pair refl refl) no_seal)
line_sealed own event _ _ (shows_sent_long {key = key} {src = src} {dst = dst} {pair = pair} long) h = own_seal (by_upper key pair src dst) no_seal
line_sealed own event _ _ (shows_first {s = s} first) h =
    own_seal (by_network (own_fields s.name.pair false s.ttl s.name.src s.dst s.tpdu) s.name.pair refl refl) no_seal
line_sealed own event _ _ (shows_seg {s = s} {pair = pair} later intime) h =
    own_seal (by_network (own_fields pair false s.ttl s.name.src s.dst s.tpdu) pair refl refl) no_seal
line_sealed own event _ _ (shows_late later late) h = no_seal
line_sealed own event _ _ (shows_relay {m = m} {f = f}) h = other_seal (relayed_foreign own m f h) no_seal
line_sealed own event _ _ shows_rep h = no_seal
line_sealed own event _ _ shows_bcn h = no_seal
line_sealed own event _ _ (shows_spent draws) h = no_seal

pub lines_sealed : (own : Config) (lines : List Shown) → AllByRecursion (ShownFits own) lines
    → SealedBy own (flat_map (λ s. seals_of s.job s.outcome) lines) (tags lines)
lines_sealed own [] h = no_seal
lines_sealed own (s ∷ lines) h = sealed_append own (line_sealed own s.entry.event s.job s.outcome h.0.0 h.0.1) (lines_sealed own lines h.1)

-- Steps that seal.

-- no seal has this tag
abbrev pub IsFree : List Sealing → Tag → Type 0
IsFree seals t = IsUnused (layer_of t.upper) t.pair seals

pub record Seals (own : Config) (us : List Use) (w : World) : Type 0 where
  pub steps : List WorldStep
  pub allowed : AreAllowed w steps
  pub on : AllByRecursion IsOn steps
  pub uses : world.uses (after_all w steps) ≡ world.uses w ++ filter (is_own own) us
  pub held : (after_all w steps).held ≡ w.held
  pub kept : (after_all w steps).kept ≡ w.kept
  pub current : (after_all w steps).current ≡ w.current
  pub entry : (after_all w steps).entry ≡ w.entry
  pub delivered : (after_all w steps).delivered ≡ w.delivered

-- a use of another source is no step
passed : (own : Config) (u : Use) (us : List Use) (w : World) → is_own own u ≡ false → Seals own us w → Seals own (u ∷ us) w
passed own u us w e s = record {
  steps = s.steps;
  allowed = s.allowed;
  on = s.on;
  uses = s.uses ∙ ap (λ b. world.uses w ++ cond b (u ∷ filter (is_own own) us) (filter (is_own own) us)) (sym e);
  held = s.held;
  kept = s.kept;
  current = s.current;
  entry = s.entry;
  delivered = s.delivered;
}

-- a use of this node is one more seal
sealed : (own : Config) (t : Tag) (u : Use) (us : List Use) (w : World) → is_own own u ≡ true → Contains w.held t.pair → IsFree w.seals t
    → HasNonce (layer_of t.upper) t.pair u.nonce → Seals own us (after w (Seal (sealing t u))) → Seals own (u ∷ us) w
sealed own t u us w e held unused nonce s = record {
  steps = Seal (sealing t u) ∷ s.steps;
  allowed = ((held, unused, nonce), s.allowed);
  on = (tt, s.on);
  uses =
      s.uses
      ∙ ap (λ xs. xs ++ filter (is_own own) us) (map-append (λ (x : Sealing). x.made) w.seals (sealing t u ∷ []))
      ∙ append_assoc (world.uses w) (u ∷ []) (filter (is_own own) us)
      ∙ ap (λ b. world.uses w ++ cond b (u ∷ filter (is_own own) us) (filter (is_own own) us)) (sym e);
  held = s.held;
  kept = s.kept;
  current = s.current;
  entry = s.entry;
  delivered = s.delivered;
}

-- tags that aren't this one are still free behind its seal
still_free : (t : Tag) (u : Use) (seals : List Sealing) (ts : List Tag) → AllByRecursion (λ s. t ≢ s) ts → AllByRecursion (IsFree seals) ts
    → AllByRecursion (IsFree (seals ++ sealing t u ∷ [])) ts
still_free t u seals [] h k = tt
still_free t u seals (s ∷ ts) h k = (
  All-push (λ x. IsOf (layer_of s.upper) s.pair x → ⊥) seals (sealing t u) k.0 (λ is. h.0 (same_tag t s (layers_apart t.upper s.upper is.0) is.1)),
  still_free t u seals ts h.1 k.1,
)

by_source : (b : Bool) (own : Config) (t : Tag) (u : Use) (us : List Use) (w : World) → is_own own u ≡ b → Contains w.held t.pair → IsFree w.seals t
    → HasNonce (layer_of t.upper) t.pair u.nonce → Seals own us (after w (Seal (sealing t u))) → Seals own us w → Seals own (u ∷ us) w
by_source true own t u us w e held unused nonce more rest = sealed own t u us w e held unused nonce more
by_source false own t u us w e held unused nonce more rest = passed own u us w e rest

pub seal_all : (own : Config) {us : List Use} {ts : List Tag} (w : World) → SealedBy own us ts → AllByRecursion (λ (t : Tag). Contains w.held t.pair) ts
    → AllByRecursion (IsFree w.seals) ts → Apart (λ s t. s ≢ t) ts → Seals own us w
seal_all own w no_seal held free apart = record {
  steps = [];
  allowed = tt;
  on = tt;
  uses = sym (append-nil (world.uses w));
  held = refl;
  kept = refl;
  current = refl;
  entry = refl;
  delivered = refl;
}
seal_all own w (other_seal {u = u} {us = us} e hs) held free apart = passed own u us w e (seal_all own w hs held free apart)
seal_all own w (own_seal {u = u} {t = t} {us = us} {ts = ts} h hs) held free apart =
    by_source (is_own own u) own t u us w refl held.0 free.0 h
    (seal_all own (after w (Seal (sealing t u))) hs held.1 (still_free t u w.seals ts apart.0 free.1) apart.1) (seal_all own w hs held.1 free.1 apart.1)
