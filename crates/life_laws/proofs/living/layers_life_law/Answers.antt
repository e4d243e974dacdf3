use Rattle.event_definitions.specs.Role.{node_role}
use Rattle.life_laws.proofs.OneLife.{cut_life, reset_life, run_life}
use Rattle.life_laws.proofs.living.layers_life_law.Goals as goal

pub returns-clause-run : goal.returns-clause-run
returns-clause-run c = λ layers. run_life (node_role layers)

pub returns-clause-reset : goal.returns-clause-reset
returns-clause-reset c = λ layers. reset_life (node_role layers)

pub returns-clause-cut : goal.returns-clause-cut
returns-clause-cut c = λ layers. cut_life (node_role layers)
