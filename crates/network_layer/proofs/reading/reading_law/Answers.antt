use Rattle.layer_definitions.proofs.NetworkLaws.{reading-one, reading-own}
use Rattle.network_layer.proofs.reading.reading_law.Goals as goal

pub returns-clause-one : goal.returns-clause-one
returns-clause-one c = reading-one

pub returns-clause-own : goal.returns-clause-own
returns-clause-own c = reading-own
