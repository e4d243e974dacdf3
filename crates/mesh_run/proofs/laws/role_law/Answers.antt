use Rattle.run_safety.proofs.Enough as enough
use Rattle.mesh_run.proofs.laws.role_law.Goals as goal

pub returns : goal.returns
returns g c = record {
  no_reuse = enough.no_reuse g.M.Machine.role c.requires.safe;
  at_most_once = enough.at_most_once g.M.Machine.role c.requires.safe;
  keeps = enough.lives_keep g.M.Machine.role c.requires.safe;
}
