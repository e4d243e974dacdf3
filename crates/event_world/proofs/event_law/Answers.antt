use Rattle.event_world.proofs.Events.{event_goes}
use Rattle.event_world.proofs.event_law.Goals as goal

pub returns : goal.returns
returns c = record {
  steps = λ w past p q event insight answer world meaning ranges sees is moves after.
      event_goes c.node_law.ensures.safe w past p q world meaning ranges event insight answer sees is moves after;
}
