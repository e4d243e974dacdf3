use Rattle.layer_definitions.proofs.ControlLaws.{acknowledgment-same, reading-one, reading-own}
use Rattle.upper_transport.proofs.laws.control_law.Goals as goal

pub returns-clause-one : goal.returns-clause-one
returns-clause-one c = reading-one

pub returns-clause-own : goal.returns-clause-own
returns-clause-own c = reading-own

pub returns-clause-acknowledgment : goal.returns-clause-acknowledgment
returns-clause-acknowledgment c = acknowledgment-same
