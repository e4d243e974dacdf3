use Rattle.layer_states.specs.Friends.{is_friend, list_changed, list_without}
use Rattle.friend_queue.proofs.Friendships.{changed_more}
use Rattle.friend_queue.proofs.slots.list_remove_all.Goals as goal

pub loop-s-preserved : goal.loop-s-preserved
loop-s-preserved c =
    changed_more (is_friend c.args.lpn) (list_changed c.args.now (λ list. list_without list c.args.removed.now)) c.args.slots.now c.loop-s.slots c.loop-s.s-index c.s-item.result c.list_remove_of.new.s
    c.loop-s-test.true c.loop-s.invariant c.s-item.is c.list_remove_of.ensures
