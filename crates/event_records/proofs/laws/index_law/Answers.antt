use Rattle.event_records.proofs.Indexes.{read_wide, wide_in}
use Rattle.event_records.proofs.laws.index_law.Goals as goal

pub returns : goal.returns
returns c = record { nets = wide_in; read = read_wide }
