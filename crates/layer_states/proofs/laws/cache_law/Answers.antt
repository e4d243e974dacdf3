use Rattle.layer_states.proofs.CacheLaws.{last_more}
use Rattle.layer_states.proofs.laws.cache_law.Goals as goal

pub returns : goal.returns
returns c = record { more = last_more }
