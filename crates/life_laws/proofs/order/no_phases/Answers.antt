use Rattle.life_laws.proofs.Ordering.{none_done}
use Rattle.life_laws.proofs.order.no_phases.Goals as goal

pub returns : goal.returns
returns c = record { done = none_done }
