use Rattle.audit_laws.proofs.SendOwn.{built_own, node_own}
use Rattle.audit_laws.proofs.laws.sources_law.Goals as goal

pub returns : goal.returns
returns c = record { node = node_own; built = built_own }
