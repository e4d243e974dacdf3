use Rattle.life_laws.proofs.OneLife.{cut_life, reset_life, run_life}
use Rattle.life_laws.proofs.living.life_law.Goals as goal

pub returns-clause-run : goal.returns-clause-run
returns-clause-run g c = run_life g.M.Machine.role

pub returns-clause-reset : goal.returns-clause-reset
returns-clause-reset g c = reset_life g.M.Machine.role

pub returns-clause-cut : goal.returns-clause-cut
returns-clause-cut g c = cut_life g.M.Machine.role
