use Rattle.life_laws.proofs.Handing.{handled_more, in_hand, next_in}
use Rattle.life_laws.proofs.hands.hands_law.Goals as goal

pub returns-clause-more : goal.returns-clause-more
returns-clause-more g c = λ phases old new d e events counts dones h w memory few none through. handled_more old new d e events counts dones w memory few none phases h through

pub returns-clause-next : goal.returns-clause-next
returns-clause-next g c = λ phases rest old new d e events counts dones h w memory few none some event hand out.
    next_in old new d e events counts dones w memory few none phases h some event hand out rest

pub returns-clause-hand : goal.returns-clause-hand
returns-clause-hand g c = λ phases rest old new d e events counts ends dones sends h w memory few none some event hand out.
    in_hand old new d e events counts dones w memory few none phases sends ends h some event hand out rest
