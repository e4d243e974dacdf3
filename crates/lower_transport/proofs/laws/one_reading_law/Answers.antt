use Rattle.lower_transport.proofs.OneReading.{itself, one}
use Rattle.lower_transport.proofs.laws.one_reading_law.Goals as goal

pub returns-clause-one : goal.returns-clause-one
returns-clause-one c = one

pub returns-clause-itself : goal.returns-clause-itself
returns-clause-itself c = itself
