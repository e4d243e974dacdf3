use Rattle.event_definitions.specs.Role.{node_role}
use Rattle.node_safety.proofs.Once.{life_once, sees_once}
use Rattle.node_safety.proofs.one_reading_law.Goals as goal

pub returns-clause-sees : goal.returns-clause-sees
returns-clause-sees c = λ layers. sees_once layers

pub returns-clause-told : goal.returns-clause-told
returns-clause-told c = λ layers. life_once (node_role layers) (sees_once layers)
