use Rattle.layer_states.specs.Friends.{is_of, polled}
use Rattle.friend_queue.proofs.Friendships.{changed_more}
use Rattle.friend_queue.proofs.slots.poll_all.Goals as goal

pub loop-s-preserved : goal.loop-s-preserved
loop-s-preserved c =
    changed_more (is_of c.args.lpn) (polled c.args.now c.args.fsn) c.args.slots.now c.loop-s.slots c.loop-s.s-index c.s-item.result c.poll_of.new.s
    c.loop-s-test.true c.loop-s.invariant c.s-item.is c.poll_of.ensures
