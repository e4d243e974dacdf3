use Rattle.run_safety.proofs.NodeRole as node
use Rattle.event_definitions.specs.Role.{node_role}
use Rattle.run_safety.proofs.Enough as enough
use Rattle.run_safety.proofs.laws.drawn_pairs_law.Goals as goal

pub returns : goal.returns
returns c = record { apart = λ layers safe s r h. enough.draws_apart (node_role layers) (node.node_is_safe layers safe) s r h }
