use Rattle.worked_layers.proofs.Sending as proof
use Rattle.worked_layers.proofs.laws.sending_rows.Goals as goal

pub returns : goal.returns
returns c = record { relay = proof.pdus_go_on; room = proof.eight_are_held; begin = proof.segments_are_sent; update = proof.update_waits }
