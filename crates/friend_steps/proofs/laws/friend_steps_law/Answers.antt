use Rattle.friend_steps.proofs.Others.{others_leave}
use Rattle.friend_steps.proofs.Ttls.{said_short}
use Rattle.friend_steps.proofs.laws.friend_steps_law.Goals as goal

pub returns-clause-others : goal.returns-clause-others
returns-clause-others c = others_leave c.friends_law.ensures.more

pub returns-clause-ttl : goal.returns-clause-ttl
returns-clause-ttl c = said_short
