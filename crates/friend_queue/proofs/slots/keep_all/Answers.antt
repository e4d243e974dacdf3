use Rattle.layer_states.specs.Friends.{is_noted, with_kept}
use Rattle.friend_queue.proofs.Friendships.{changed_more}
use Rattle.friend_queue.proofs.slots.keep_all.Goals as goal

pub loop-s-preserved : goal.loop-s-preserved
loop-s-preserved c =
    changed_more (is_noted c.args.lpn c.args.fsn) (with_kept c.args.name.now c.args.pdu.now) c.args.slots.now c.loop-s.slots c.loop-s.s-index c.s-item.result c.keep_of.new.s
    c.loop-s-test.true c.loop-s.invariant c.s-item.is c.keep_of.ensures
