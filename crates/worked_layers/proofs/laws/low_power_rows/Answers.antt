use Rattle.worked_layers.proofs.LowPower as proof
use Rattle.worked_layers.proofs.laws.low_power_rows.Goals as goal

pub returns : goal.returns
returns c = record { befriends = proof.befriends; lists = proof.lists; hears = proof.hears }
