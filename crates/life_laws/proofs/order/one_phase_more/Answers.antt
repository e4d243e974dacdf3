use Rattle.life_laws.proofs.Ordering.{broken_off, done_more, numbered_more}
use Rattle.life_laws.proofs.order.one_phase_more.Goals as goal

pub returns-clause-done : goal.returns-clause-done
returns-clause-done g c = λ phases old new d e events counts ends dones sends h w memory few none through. done_more phases old new d e events counts ends dones sends h w memory few none through

pub returns-clause-broken : goal.returns-clause-broken
returns-clause-broken g c = λ phases rest old new d e events counts ends dones sends h w memory few none. broken_off phases old new d e events counts ends dones sends h w memory few none rest

pub returns-clause-numbered : goal.returns-clause-numbered
returns-clause-numbered g c = λ phases old new d e events counts ends dones sends h w memory few none k. numbered_more phases old new d e events counts ends dones sends h w memory few none k
