-- The models stay within the bounds of what the store says, as long as it says the same elements.
use Rattle.std.proofs.Common.{ap, sym, ◌∙◌}
use Rattle.machine_standing.proofs.Fronts.{IsSameNode}
use Rattle.node_models.specs.Models.{AreWithin, ModelsView, StayWithin}
use Rattle.node_records.specs.Meaning.{IsMeaningOf}
use Rattle.node_records.specs.Tables.{config_in}
use Rattle.node_records.specs.declared.persist.Persist.{Persist}
use Rattle.event_definitions.specs.Answers.{config_before}
use Rattle.event_definitions.specs.History.{Past}
use Rattle.store_definitions.specs.Config.{Config}

-- `law` is that of the models
pub within_after : (law : StayWithin) (m : ModelsView) (past : Past) (p q : Persist) → IsMeaningOf past.records p
    → IsSameNode (config_before past) (config_in q) → AreWithin m p → AreWithin m q
within_after law m past p q meaning node h =
    law m p q (node.unicast ∙ sym (ap (λ (c : Config). c.unicast) meaning.config))
    (node.elements ∙ sym (ap (λ (c : Config). c.elements) meaning.config)) h

pub within_refilled : (law : StayWithin) (m : ModelsView) (p q : Persist) → IsSameNode (config_in p) (config_in q) → AreWithin m p → AreWithin m q
within_refilled law m p q node h = law m p q node.unicast node.elements h
