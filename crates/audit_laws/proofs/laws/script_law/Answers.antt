use Rattle.audit_laws.proofs.Readable.{lives_name}
use Rattle.audit_laws.proofs.laws.script_law.Goals as goal

pub returns : goal.returns
returns c = record { named = lives_name }
