use Rattle.run_safety.proofs.NodeRole as node
use Rattle.event_definitions.specs.Role.{node_role}
use Rattle.run_safety.proofs.Enough as enough
use Rattle.run_safety.proofs.laws.lives_law.Goals as goal

pub returns : goal.returns
returns c = record { keeps = λ layers safe plan over l next h. enough.lives_keep (node_role layers) (node.node_is_safe layers safe) plan over l next h }
