-- An accepted message: its SEQ has 24 bits, and there is a place for it.
use Rattle.std.proofs.Common.{◌≡◌, ◌<◌, ◌^◌, refl, ap, sym, subst, ◌∙◌, Option, Some, None}
use Rattle.std.specs.Prelude.{IfSome}
use Rattle.std.specs.Option.{is_some}
use Rattle.event_definitions.proofs.Accepting.{HasPlace, past_refusal, whole_accepts}
use Rattle.event_definitions.proofs.Events.{nothing_accepted}
use Rattle.event_definitions.specs.Answers.{accepted, pair_of, whole_answer}
use Rattle.event_definitions.specs.History.{Insight, Opening, Past, Reading}
use Rattle.event_definitions.specs.Layers.{quiet_layers}
use Rattle.low_power_definitions.specs.State.{heard_as, name_of}
use Rattle.low_power_role.proofs.Safe.{early_passes, network_refuses, nothing_silent}
use Rattle.low_power_role.specs.Answers.{answer_of, network_answer, transport_answer}
use Rattle.low_power_role.specs.Readings.{Sees, sees_nothing, sees_pdu}
use Rattle.low_power_role.specs.State.{state_of}
use Rattle.message_answers.proofs.Places.{not_full}
use Rattle.mesh_base.specs.declared.lower.Lower.{Lower}
use Rattle.mesh_base.specs.declared.pair.Name.{Name}
use Rattle.mesh_types.specs.declared.answers.Answer.{Answer}
use Rattle.mesh_types.specs.declared.events.Event.{Event}
use Rattle.node_records.specs.Full.{IsFull}
use Rattle.node_records.specs.Meaning.{IsMeaningOf}
use Rattle.node_records.specs.declared.persist.Persist.{Persist}
use Rattle.record_types.specs.declared.records.StoreRecord.TheVariants as R
use Rattle.store_definitions.specs.Entries.{entry_of}

record IsTaken (past : Past) (n : Name) : Type 0 where
  seq : n.pair.seq < 2 ^ 24
  place : HasPlace past n

transport_taken : (past : Past) (r : Reading) (low : Option Lower) (opening : Option Opening) (n : Name) → r.fields.seq < 2 ^ 24
    → accepted (transport_answer past r low opening) ≡ Some n → IsTaken past n
transport_taken past r None opening n h e = absurd cc
transport_taken past r (Some low) opening n h e =
    let (newer, whole) =
    early_passes (heard_as (state_of past) (is_some r.by.lpn) (name_of r.fields)) (entry_of past.records r.fields.src.0) (pair_of r.fields)
    (whole_answer quiet_layers past r low (name_of r.fields) opening) n e in
    let (same, place) = whole_accepts quiet_layers past r low (name_of r.fields) opening n whole in
    subst (IsTaken past) same (record { seq = h; place = place })

taken : (past : Past) (event : Event) (i : Insight) (n : Name) → Sees past event i → accepted (answer_of past event i) ≡ Some n → IsTaken past n
unfolding answer_of
taken past _ _ n (sees_pdu {octets = octets} {reading = None} {low = low} {opening = opening} reads l o) e = absurd cc
taken past _ _ n (sees_pdu {octets = octets} {reading = Some r} {low = low} {opening = opening} reads l o) e =
    let (none, rest) = past_refusal (network_answer past r) (transport_answer past r low opening) n (network_refuses past r) e in
    transport_taken past r low opening n reads.1.reads.has_pdu.seq rest
taken past _ _ n (sees_nothing {event = event} h) e = absurd (nothing_accepted _ n (nothing_silent past event) e)

pub seq_of_answer : (past : Past) (event : Event) (i : Insight) (a : Answer) → Sees past event i → a ≡ answer_of past event i
    → IfSome (accepted a) (λ (n : Name). n.pair.seq < 2 ^ 24)
seq_of_answer past event i a sees is = pick (accepted a) refl
  where
    pick : (o : Option Name) → accepted a ≡ o → IfSome o (λ (n : Name). n.pair.seq < 2 ^ 24)
    pick None e = tt
    pick (Some n) e = (taken past event i n sees (ap accepted (sym is) ∙ e)).seq

-- there is a place for the name of an accepted message
pub place_of_answer : (past : Past) (p : Persist) (event : Event) (i : Insight) (a : Answer) → IsMeaningOf past.records p
    → Sees past event i → a ≡ answer_of past event i
    → IfSome (accepted a) (λ (n : Name). IsFull p (R.Replay n None) → ⊥)
place_of_answer past p event i a m sees is = pick (accepted a) refl
  where
    pick : (o : Option Name) → accepted a ≡ o → IfSome o (λ (n : Name). IsFull p (R.Replay n None) → ⊥)
    pick None e = tt
    pick (Some n) e = not_full past p n m (taken past event i n sees (ap accepted (sym is) ∙ e)).place
