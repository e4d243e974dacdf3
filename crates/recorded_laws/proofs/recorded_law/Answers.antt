use Rattle.mesh_hearing.proofs.Recorded.{entry_recorded, more_recorded}
use Rattle.recorded_laws.proofs.recorded_law.Goals as goal

pub returns-clause-more : goal.returns-clause-more
returns-clause-more c = more_recorded

pub returns-clause-entry : goal.returns-clause-entry
returns-clause-entry c = entry_recorded
