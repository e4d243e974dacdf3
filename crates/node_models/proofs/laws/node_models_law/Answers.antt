use Rattle.std.proofs.Common.{◌∙◌}
use Rattle.layer_states.specs.Friends.{poll_timeouts}
use Rattle.model_states.specs.Publication.{heartbeat_shown}
use Rattle.node_layers.specs.Publishing.{published}
use Rattle.node_models.proofs.Asked.{keeps_address}
use Rattle.node_models.proofs.Published.{published_filled, stays}
use Rattle.event_definitions.specs.Answers.{config_before}
use Rattle.node_models.proofs.laws.node_models_law.Goals as goal

pub returns-clause-more : goal.returns-clause-more
returns-clause-more c = λ m past t records are same none still elements. record {
  servers = c.models_law.ensures.more m.servers past t records are.servers same none elements;
  published = are.published ∙ stays c.step_law.ensures.publications past t records same none still;
}

pub returns-clause-refill : goal.returns-clause-refill
returns-clause-refill c = λ m past fills are. record {
  servers = c.models_law.ensures.refill m.servers past fills are.servers;
  published = are.published ∙ published_filled past.told fills past.records;
}

pub returns-clause-unicast : goal.returns-clause-unicast
returns-clause-unicast c = λ past st m.
    keeps_address (config_before past) (poll_timeouts st.slots) (heartbeat_shown (published past)) m
