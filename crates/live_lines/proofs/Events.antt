-- A phase of a line that was read has events that the node may have.
use Rattle.std.proofs.Common.{◌≡◌, ℕ, ◌≤◌, ◌==◌, if◌then◌else◌, Bool, true, false, IsTrue, List, [], ◌∷◌, length, get_or, map, arith, sym, ap, refl, subst, ◌∙◌, Option, Some, None, Vec, Global}
use Rattle.std.specs.Prelude.{All, IfSome}
use Rattle.std.specs.List.{cons_option, range_with_len}
use Rattle.std.proofs.lemmas.Bool.Decides.{nat_tests}
use Rattle.std.proofs.lemmas.List.{get_or-map, length-map}
use Rattle.std.proofs.lemmas.List.Elements.{All-cons, All-map, All-nil}
use Rattle.std.proofs.lemmas.List.FromFn.{length-map-range_with_len}
use Rattle.machine_contract.specs.Ranges.{IsEvent}
use Rattle.machine_contract.specs.Ranges as Asked
use Rattle.mesh_types.specs.declared.events.Event.{Event}
use Rattle.mesh_types.specs.declared.events.SendKey.{SendKey}
use Rattle.mesh_types.specs.declared.events.SendKey.TheVariants as K
use Rattle.node_bearer.specs.Did.{AreEvents}
use Rattle.run_definitions.specs.Order.{is_outside}
use Rattle.script_definitions.specs.Events.{Happening, event_on, events_on, happening_of}
use Rattle.script_definitions.specs.Lines.{is_send_dst}
use Rattle.script_definitions.specs.Ranges.{IsLine, IsSendKey}
use Rattle.script_definitions.specs.declared.kind.Grammar.TheVariants as G
use Rattle.script_definitions.specs.declared.line.ScriptLine.{ScriptLine}
use Rattle.script_definitions.specs.declared.line.ScriptLine.TheVariants as L
use Rattle.live_lines.specs.Saying.{IsPhaseOfLine}

send_dst : (dst : ℕ) → IsTrue (is_send_dst dst) → (1 ≤ dst) × (0x8000 ≤ dst → 0xc000 ≤ dst)
send_dst dst h = grind (arith, nat_tests)

send_key : (key : SendKey) → IsSendKey key → Asked.IsSendKey key
send_key K.Own h = tt
send_key (K.Other key) h = tt
send_key (K.App index) h = h

abbrev IsAsked : ℕ → Event → Type 0
IsAsked elements event = IsTrue (is_outside event) × IsEvent elements event

event_fits : (elements : ℕ) (line : ScriptLine) → IsLine G.Node elements line → IfSome (happening_of line) (λ h. IsAsked elements h.event)
event_fits elements (L.Net bearer octets) h = (refl, tt)
event_fits elements (L.Bcn bearer octets) h = (refl, tt)
event_fits elements (L.Peer bearer peer) h = (refl, tt)
event_fits elements (L.Talk bearer talk) h = (refl, tt)
event_fits elements (L.Beacon bearer beacon) h = (refl, tt)
event_fits elements (L.Send bearer send) h =
    let s = h.1 in
    let dst = send_dst send.dst.0 s.dst in
    (refl, (s.element, dst.0, dst.1, s.ttl, send_key send.key s.key, s.payload.0, s.payload.1))
event_fits elements (L.Raw bearer raw) h = (refl, h.1)
event_fits elements (L.Tick bearer ticks) h = (refl, tt)
event_fits elements L.Sync h = tt
event_fits elements (L.Arm order) h = tt
event_fits elements (L.Seek bearer) h = (refl, tt)
event_fits elements (L.Poll bearer) h = (refl, tt)
event_fits elements (L.List bearer address) h = (refl, tt)

module _ (P : Event → Type 0) where
  kept : (t : Bool) (event : Event) → P event → IfSome (if t then Some event else None) P
  kept true event h = h
  kept false event h = tt

  on_bearer : (k : ℕ) (o : Option Happening) → IfSome o (λ h. P h.event) → IfSome (event_on k o) P
  on_bearer k None h = tt
  on_bearer k (Some happening) h = kept (happening.bearer == k) happening.event h

  at_most_one : (o : Option Event) → IfSome o P → All P (cons_option o [])
  at_most_one None h = All-nil P
  at_most_one (Some event) h = All-cons P event [] h (All-nil P)

events_fit : (elements k : ℕ) (line : ScriptLine) → IsLine G.Node elements line → AreEvents elements (events_on k (line ∷ []))
events_fit elements k line h =
    at_most_one (IsAsked elements) (event_on k (happening_of line)) (on_bearer (IsAsked elements) k (happening_of line) (event_fits elements line h))

pub phase_fits : (bearers elements : ℕ) (lists : List (List Event)) → IsPhaseOfLine bearers elements lists → All (AreEvents elements) lists
phase_fits bearers elements lists h =
    subst (All (AreEvents elements)) (sym h.is)
    (All-map (AreEvents elements) (λ k. events_on k (h.line ∷ [])) (range_with_len 0 bearers) (λ i d l. events_fit elements (get_or (range_with_len 0 bearers) i d) h.line h.said))

pub lists_fit : (bearers elements : ℕ) (lists : List (Vec Event Global)) → IsPhaseOfLine bearers elements (map (λ v. v.items) lists)
    → All (λ v. AreEvents elements v.items) lists
lists_fit bearers elements lists h = λ k d l.
    subst (AreEvents elements) (get_or-map (λ v. v.items) lists k d d.items l)
    (phase_fits bearers elements (map (λ v. v.items) lists) h k d.items (omega (arith, length-map lists (λ v. v.items))))

pub lists_long : (bearers elements : ℕ) (lists : List (Vec Event Global)) → IsPhaseOfLine bearers elements (map (λ v. v.items) lists)
    → length lists ≡ bearers
lists_long bearers elements lists h =
    sym (length-map lists (λ v. v.items)) ∙ ap length h.is ∙ length-map-range_with_len (λ k. events_on k (h.line ∷ [])) 0 bearers
