use Rattle.node_store.proofs.Found.{only_reset, stands}
use Rattle.node_store.proofs.laws.what_is_read_is_mounted.Goals as goal

pub returns : goal.returns
returns c = record { stands = λ content records read here fault found. stands content records fault read here found; was_reset = λ content records read is fault found. only_reset content records fault read is found }
