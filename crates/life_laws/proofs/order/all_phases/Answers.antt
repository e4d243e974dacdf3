use Rattle.life_laws.proofs.Ordering.{ordered}
use Rattle.life_laws.proofs.order.all_phases.Goals as goal

pub returns : goal.returns
returns c = record { ordered = ordered }
