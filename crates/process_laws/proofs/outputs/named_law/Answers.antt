use Rattle.process_laws.proofs.Naming.{events_named}
use Rattle.process_laws.proofs.outputs.named_law.Goals as goal

pub returns : goal.returns
returns c = record { named = events_named }
