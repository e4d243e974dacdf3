use Rattle.process_laws.proofs.Phases.{broken_some, phases_reordered}
use Rattle.process_laws.proofs.outputs.phases_law.Goals as goal

pub returns : goal.returns
returns c = record { reordered = phases_reordered; broken = broken_some }
