use Rattle.iv_update.proofs.Later.{by_beacon, by_hours}
use Rattle.iv_update.proofs.laws.steps_law.Goals as goal

pub returns-clause-beacon : goal.returns-clause-beacon
returns-clause-beacon c = by_beacon

pub returns-clause-hours : goal.returns-clause-hours
returns-clause-hours c = by_hours
