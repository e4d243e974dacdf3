use Rattle.node_records.proofs.Alike.{alike_by, means_alike, alike_push}
use Rattle.node_records.proofs.laws.alike_law.Goals as goal

pub returns : goal.returns
returns c = record { one_value = alike_by; one_meaning = means_alike; push = alike_push }
