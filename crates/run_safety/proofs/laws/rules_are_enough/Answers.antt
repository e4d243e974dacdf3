use Rattle.run_safety.proofs.NodeRole as node
use Rattle.event_definitions.specs.Role.{node_role}
use Rattle.run_safety.proofs.Enough as enough
use Rattle.run_safety.proofs.Lives as lives
use Rattle.run_safety.proofs.Reuse as reuse
use Rattle.run_safety.proofs.laws.rules_are_enough.Goals as goal

pub returns-clause-no_reuse : goal.returns-clause-no_reuse
returns-clause-no_reuse c = λ layers safe s r h. reuse.no_reuse (node_role layers) (node.node_is_safe layers safe) s r h

pub returns-clause-at_most_once : goal.returns-clause-at_most_once
returns-clause-at_most_once c = λ layers safe s r h. lives.at_most_once (node_role layers) (node.node_is_safe layers safe) s r h

pub returns-clause-by_enough : goal.returns-clause-by_enough
returns-clause-by_enough c = λ layers s r h. enough.run_by_enough (node_role layers) s r h
