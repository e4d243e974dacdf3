use Rattle.layer_laws.proofs.Fit as fit
use Rattle.layer_laws.proofs.Safe as safe
use Rattle.layer_laws.proofs.laws.node_law.Goals as goal

pub returns : goal.returns
returns c = record { safe = safe.node_safe; fit = fit.node_fit; storable = fit.node_storable }
