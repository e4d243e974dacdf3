use Rattle.std.proofs.Common.{arith}
use Rattle.friend_queue.proofs.Friendships.{polls_more}
use Rattle.friend_queue.proofs.slots.poll_list.Goals as goal

pub loop-s-preserved : goal.loop-s-preserved
loop-s-preserved c =
    let one = polls_more c.args.slots.now c.loop-s.s-index c.s-item.result c.loop-s-test.true in
    record {
      polls = cc (one, c.push_poll.ensures.value, c.loop-s.invariant.polls, c.s-item.is);
      few = omega (arith, c.push_poll.ensures.length, c.loop-s.invariant.few);
    }
