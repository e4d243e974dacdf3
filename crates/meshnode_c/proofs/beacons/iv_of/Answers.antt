use Rattle.std.proofs.Common.{refl}
use Rattle.meshnode_c.proofs.OneKey.{read_alone, unread_alone}
use Rattle.meshnode_c.proofs.beacons.iv_of.Goals as goal

pub returns-in-Ok-clause-some : goal.returns-in-Ok-clause-some
returns-in-Ok-clause-some c = read_alone c.args.key.now c.args.beacon.now c.in-Ok.said c.in-Ok.ensures.ok

pub returns-in-Err-clause-none : goal.returns-in-Err-clause-none
returns-in-Err-clause-none c = λ _. unread_alone c.args.key.now c.args.beacon.now (c.in-Err.ensures.unread.0 refl)
