use Rattle.mesh_hearing.proofs.Entries.{begins, goes_on}
use Rattle.mesh_hearing.proofs.laws.tables_law.Goals as goal

pub returns : goal.returns
returns c = record { begin = begins; more = goes_on }
