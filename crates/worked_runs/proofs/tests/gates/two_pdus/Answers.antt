use Rattle.std.proofs.Common.{IsTrue, subst, sym}
use Rattle.std.proofs.lemmas.List.Elements.{All-nil, All-push}
use Rattle.machine_contract.specs.Ranges.{IsEvent}
use Rattle.mesh_types.specs.declared.events.Event.{Event}
use Rattle.node_bearer.specs.Did.{AreEvents}
use Rattle.run_definitions.specs.Order.{is_outside}
use Rattle.worked_runs.proofs.tests.gates.two_pdus.Goals as goal

pub returns : goal.returns
returns c = record {
  events = λ elements.
      let P : Event → Type 0 = λ e. IsTrue (is_outside e) × IsEvent elements e in
      let none : AreEvents elements c.new-events.result.items = subst (AreEvents elements) (sym c.new-events.ensures.items) (All-nil P) in
      let one : AreEvents elements c.push.new.self.items =
      subst (AreEvents elements) (sym c.in_ok-push.ensures.items) (All-push P c.new-events.result.items c.in_ok-pdu.field-0 none (c.in_ok-pdu.ensures.outside, c.in_ok-pdu.ensures.event elements)) in
      subst (AreEvents elements) (sym c.in_ok-push-2.ensures.items) (All-push P c.push.new.self.items c.in_ok-pdu-2.field-0 one (c.in_ok-pdu-2.ensures.outside, c.in_ok-pdu-2.ensures.event elements));
}
