-- The events of phases name elements of the node.
use Rattle.std.proofs.Common.{ℕ, List, All, IsTrue, sym, subst}
use Rattle.std.proofs.lemmas.List.Elements.{All-from_recursion, recursion_from_All}
use Rattle.audit_laws.specs.Laws.{NamesElement}
use Rattle.machine_contract.specs.Ranges.{IsEvent}
use Rattle.mesh_base.proofs.Every.{every_map}
use Rattle.mesh_node.proofs.Telling.{phases_are}
use Rattle.mesh_types.specs.declared.events.Event.{Event}
use Rattle.mesh_types.specs.declared.events.Event.TheVariants as E
use Rattle.node_bearer.specs.Did.{AreEvents}
use Rattle.run_definitions.specs.Order.{is_outside}
use Rattle.process_laws.specs.Laws.{EventsNameElements}

weaker : {A : Type 0} (P Q : A → Type 0) → ((x : A) → P x → Q x) → (xs : List A) → All P xs → All Q xs
weaker P Q f xs h = All-from_recursion Q xs (every_map P Q f xs (recursion_from_All P xs h))

abbrev IsGiven : ℕ → Event → Type 0
IsGiven elements e = IsTrue (is_outside e) × IsEvent elements e

event_named : (elements : ℕ) (e : Event) → IsGiven elements e → NamesElement elements e
event_named elements (E.Send element dst ttl key payload) h = h.1.0
event_named elements _ h = tt

pub events_named : EventsNameElements
events_named elements phases h =
    let named = weaker (All (AreEvents elements)) (λ phase. All (λ events. All (NamesElement elements) events) phase)
    (λ phase. weaker (AreEvents elements) (λ events. All (NamesElement elements) events) (weaker (IsGiven elements) (NamesElement elements) (event_named elements)) phase) phases h in
    subst (All (λ phase. All (λ events. All (NamesElement elements) events) phase)) (sym (phases_are phases)) named
