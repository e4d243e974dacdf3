use Rattle.net_keys.proofs.Nids.{candidates_read, others_do_not_read}
use Rattle.net_keys.proofs.laws.candidates_law.Goals as goal

pub returns : goal.returns
returns c = record { read = candidates_read; unread = others_do_not_read }
