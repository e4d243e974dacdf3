-- The replies so far are stored, and none of them is left.
use Rattle.std.proofs.Common.{◌≡◌, ◌++◌, true, List, [], map, take}
use Rattle.element_models.specs.Messages.{reply_in}
use Rattle.friend_steps.specs.Replying.{reply_short}
use Rattle.layer_states.specs.Friends.{FriendsState}
use Rattle.layer_states.specs.declared.friends.OwnShort.{OwnShort}
use Rattle.mesh_jobs.specs.Replying.{heard_as, replies_sent}
use Rattle.node_friends.specs.Steps.{after_sent}
use Rattle.friend_steps.proofs.replying.store_models.Given as goal

abbrev pub invariant-loop-reply : goal.invariant-loop-reply
invariant-loop-reply l =
    record {
      state : (st : FriendsState) (sent : List OwnShort) → l.initial.friends ≡ after_sent st sent
          → l.friends
          ≡ after_sent st
          (sent
          ++ map (reply_short l.to.unicast l.to.ttl (heard_as l.to.reading.now l.to.key.now l.to.src))
          (map reply_in (take l.reply-index l.reply-items)));
      left : replies_sent true (map reply_in (take l.reply-index l.reply-items)) ≡ [];
    }
