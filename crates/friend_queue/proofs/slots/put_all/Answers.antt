use Rattle.std.specs.Prelude.{◌-◌}
use Rattle.layer_states.specs.declared.friends.QueueEntry.TheVariants as Q
use Rattle.layer_states.specs.Friends.{is_stored, queued}
use Rattle.friend_queue.proofs.Friendships.{changed_more}
use Rattle.friend_queue.proofs.slots.put_all.Goals as goal

pub loop-s-preserved : goal.loop-s-preserved
loop-s-preserved c =
    changed_more (is_stored c.args.f.now) (queued (Q.Heard (record c.args.f.now { ttl = c.args.f.now.ttl - 1 }))) c.args.slots.now c.loop-s.slots c.loop-s.s-index c.s-item.result c.put_of.new.s
    c.loop-s-test.true c.loop-s.invariant c.s-item.is c.put_of.ensures
