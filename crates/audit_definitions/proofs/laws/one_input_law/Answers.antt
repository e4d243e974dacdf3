use Rattle.audit_definitions.proofs.OneVerdict.{one_input}
use Rattle.audit_definitions.proofs.laws.one_input_law.Goals as goal

pub returns : goal.returns
returns c = record { one_reading = one_input }
