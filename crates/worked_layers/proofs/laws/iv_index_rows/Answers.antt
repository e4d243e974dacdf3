use Rattle.worked_layers.proofs.IvIndex as proof
use Rattle.worked_layers.proofs.laws.iv_index_rows.Goals as goal

pub returns : goal.returns
returns c = record { read = proof.pdus_are_read_under; ended = proof.update_ends }
