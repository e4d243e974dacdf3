use Rattle.audit_laws.proofs.Readable.{reports_read}
use Rattle.audit_laws.proofs.laws.reading_law.Goals as goal

pub returns : goal.returns
returns c = record { read = reports_read }
