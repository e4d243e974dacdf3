use Rattle.std.proofs.Common.{◌∷◌, [], refl, sym, subst}
use Rattle.std.specs.Prelude.{IsTrue}
use Rattle.std.proofs.lemmas.List.Elements.{All-append, All-cons, All-nil}
use Rattle.machine_contract.specs.Ranges.{IsEvent}
use Rattle.mesh_types.specs.declared.events.Event.{Event}
use Rattle.mesh_types.specs.declared.events.Event.TheVariants as E
use Rattle.node_bearer.specs.Did.{AreEvents}
use Rattle.run_definitions.specs.Order.{is_outside}
use Rattle.worked_machine.proofs.tests.hearing.heard.Goals as goal

-- an event more, a network PDU, may be had by any node
pub loop-preserved : goal.loop-preserved
loop-preserved c = λ elements.
    let may = λ (e : Event). IsTrue (is_outside e) × IsEvent elements e in
    subst (AreEvents elements) (sym c.in_ok-push.ensures.items)
    (All-append may c.loop.events.items (E.Net c.pdu.result ∷ []) (c.loop.invariant elements) (All-cons may (E.Net c.pdu.result) [] (refl, tt) (All-nil may)))
