use Rattle.layer_definitions.specs.KeyRefresh.{net_index}
use Rattle.layer_definitions.proofs.OrderLaws.{by_index_stays}
use Rattle.net_beacon.proofs.Texts.{one_reading}
use Rattle.net_beacon.proofs.reading.beacon_law.Goals as goal

pub returns-clause-one : goal.returns-clause-one
returns-clause-one c = one_reading

pub returns-clause-order : goal.returns-clause-order
returns-clause-order c = by_index_stays net_index
