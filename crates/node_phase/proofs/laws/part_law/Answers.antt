use Rattle.node_phase.proofs.Parting.{parts_of_phase}
use Rattle.node_phase.proofs.laws.part_law.Goals as goal

pub returns-clause-does : goal.returns-clause-does
returns-clause-does g c = λ old new d e events counts dones w memory few k. (parts_of_phase old new d e events counts dones w memory few k).0

pub returns-clause-numbers : goal.returns-clause-numbers
returns-clause-numbers g c = λ old new d e events counts dones w memory few k. (parts_of_phase old new d e events counts dones w memory few k).1
