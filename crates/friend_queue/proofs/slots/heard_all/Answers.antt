use Rattle.std.proofs.Common.{arith}
use Rattle.friend_queue.proofs.Friendships.{heard_more}
use Rattle.friend_queue.proofs.slots.heard_all.Goals as goal

pub loop-s-preserved : goal.loop-s-preserved
loop-s-preserved c =
    let one = heard_more c.args.nid c.args.slots.now c.loop-s.s-index c.s-item.result c.loop-s-test.true in
    record {
      heard = cc (one, c.push_heard.ensures.value, c.loop-s.invariant.heard, c.s-item.is);
      few = omega (arith, c.push_heard.ensures.length, c.loop-s.invariant.few);
    }
