use Rattle.audit_definitions.proofs.OneVerdict.{one_verdict}
use Rattle.audit_definitions.proofs.laws.one_verdict_law.Goals as goal

pub returns : goal.returns
returns c = record { one_verdict = one_verdict }
