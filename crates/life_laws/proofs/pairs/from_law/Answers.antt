use Rattle.life_laws.proofs.Pairing.{from_all}
use Rattle.life_laws.proofs.pairs.from_law.Goals as goal

pub returns : goal.returns
returns c = record { from = λ entries moves sends d h. from_all entries moves sends h.drawns d.looks h.shown }
