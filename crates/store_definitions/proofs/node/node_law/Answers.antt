use Rattle.store_definitions.proofs.Whole.{whole_kept}
use Rattle.store_definitions.proofs.node.node_law.Goals as goal

pub returns : goal.returns
returns c = record { kept = whole_kept }
