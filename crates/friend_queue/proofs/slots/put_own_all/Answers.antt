use Rattle.std.specs.Prelude.{◌&&◌}
use Rattle.layer_states.specs.declared.friends.QueueEntry.TheVariants as Q
use Rattle.layer_states.specs.Friends.{has_address, is_friendship, queued}
use Rattle.friend_queue.proofs.Friendships.{changed_more}
use Rattle.friend_queue.proofs.slots.put_own_all.Goals as goal

pub loop-s-preserved : goal.loop-s-preserved
loop-s-preserved c =
    changed_more (λ s. is_friendship s && has_address s c.args.m.now.dst) (queued (Q.Own c.args.m.now)) c.args.slots.now c.loop-s.slots c.loop-s.s-index c.s-item.result c.put_own_of.new.s
    c.loop-s-test.true c.loop-s.invariant c.s-item.is c.put_own_of.ensures
