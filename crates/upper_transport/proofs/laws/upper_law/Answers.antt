use Rattle.layer_definitions.proofs.UpperLaws.{opening-one, opening-own, opening-place}
use Rattle.upper_transport.proofs.laws.upper_law.Goals as goal

pub returns-clause-one : goal.returns-clause-one
returns-clause-one c = opening-one

pub returns-clause-place : goal.returns-clause-place
returns-clause-place c = opening-place

pub returns-clause-own : goal.returns-clause-own
returns-clause-own c = opening-own
