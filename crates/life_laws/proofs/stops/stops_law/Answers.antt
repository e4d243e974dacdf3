use Rattle.life_laws.proofs.Stopping.{none_stopped, some_stopped}
use Rattle.life_laws.proofs.stops.stops_law.Goals as goal

pub returns-clause-none : goal.returns-clause-none
returns-clause-none g c = λ old new d e events counts dones w none through. none_stopped old new d e events counts dones w none through

pub returns-clause-some : goal.returns-clause-some
returns-clause-some g c = λ old new d e events counts dones w none stopped. some_stopped old new d e events counts dones w none stopped
