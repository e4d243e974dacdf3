use Rattle.store_world.proofs.Steps.{cut, expire, provisioned_so}
use Rattle.store_world.proofs.standing_law.Goals as goal

pub returns-clause-provisioned : goal.returns-clause-provisioned
returns-clause-provisioned c = provisioned_so

pub returns-clause-cut : goal.returns-clause-cut
returns-clause-cut c = cut

pub returns-clause-expire : goal.returns-clause-expire
returns-clause-expire c = expire

pub returns-clause-draw : goal.returns-clause-draw
returns-clause-draw c w p published h = record { current = h.current; kept = h.kept; mark = h.mark; entries = h.entries }

pub returns-clause-seal : goal.returns-clause-seal
returns-clause-seal c w p published sealing h = record { current = h.current; kept = h.kept; mark = h.mark; entries = h.entries }

pub returns-clause-deliver : goal.returns-clause-deliver
returns-clause-deliver c w p published name h = record { current = h.current; kept = h.kept; mark = h.mark; entries = h.entries }
