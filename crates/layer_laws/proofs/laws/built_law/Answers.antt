use Rattle.layer_laws.proofs.Built as proof
use Rattle.layer_laws.proofs.laws.built_law.Goals as goal

pub returns : goal.returns
returns c = record { safe = proof.built_safe; fit = proof.built_fit }
