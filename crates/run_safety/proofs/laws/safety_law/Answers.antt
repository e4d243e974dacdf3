use Rattle.run_safety.proofs.NodeRole as node
use Rattle.event_definitions.specs.Role.{node_role}
use Rattle.run_safety.proofs.Enough as enough
use Rattle.run_safety.proofs.laws.safety_law.Goals as goal

pub returns-clause-no_reuse : goal.returns-clause-no_reuse
returns-clause-no_reuse c = λ layers safe s r h. enough.no_reuse (node_role layers) (node.node_is_safe layers safe) s r h

pub returns-clause-at_most_once : goal.returns-clause-at_most_once
returns-clause-at_most_once c = λ layers safe s r h. enough.at_most_once (node_role layers) (node.node_is_safe layers safe) s r h

pub returns-clause-nodes : goal.returns-clause-nodes
returns-clause-nodes c = node.node_is_safe
