use Rattle.mesh_world.proofs.Nonces.{no_reuse}
use Rattle.mesh_world.proofs.Steps.{steps}
use Rattle.mesh_world.proofs.world_law.Goals as goal

pub returns-clause-good : goal.returns-clause-good
returns-clause-good c = steps

pub returns-clause-no_reuse : goal.returns-clause-no_reuse
returns-clause-no_reuse c = no_reuse
