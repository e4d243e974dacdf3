use Rattle.friend_steps.proofs.Sent.{octet_at, stored_more_replies}
use Rattle.friend_steps.specs.Replying.{reply_short}
use Rattle.mesh_jobs.specs.Replying.{heard_as}
use Rattle.friend_steps.proofs.replying.store_models.Goals as goal

pub store_reply-requires-clause-octet : goal.store_reply-requires-clause-octet
store_reply-requires-clause-octet c =
    octet_at c.args.models.now c.as_slice-reply-items.result.now c.loop-reply.reply-index c.reply-item.result
    c.as_slice-reply-items.ensures.value c.reply-item.is c.loop-reply-test.true c.requires.octets

pub loop-reply-preserved : goal.loop-reply-preserved
loop-reply-preserved c =
    let to = c.args.to.now in
    stored_more_replies (reply_short to.unicast to.ttl (heard_as to.reading.now to.key.now to.src)) c.as_slice-reply-items.result.now
    c.loop-reply.reply-index c.reply-item.result _ _ c.reply-item.is c.loop-reply-test.true c.store_reply.ensures.state
    c.store_reply.ensures.left c.loop-reply.invariant.state c.loop-reply.invariant.left
