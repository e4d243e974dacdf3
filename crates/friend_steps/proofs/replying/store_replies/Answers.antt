use Rattle.std.proofs.Common.{◌≡◌, ◌∙◌, true, false, map, ap, sym}
use Rattle.element_models.specs.Messages.{reply_in}
use Rattle.friend_steps.proofs.Sent.{all_sent, first_octet, left_are, none_stored, rest_octets}
use Rattle.friend_steps.specs.Replying.{ended}
use Rattle.layer_states.specs.Friends.{FriendsState, is_befriended}
use Rattle.mesh_jobs.specs.Replying.{heard_as}
use Rattle.node_models.specs.Replies.{replies_in}
use Rattle.friend_steps.proofs.replying.store_replies.Goals as goal

pub returns-then-not-is_befriended-clause-state : goal.returns-then-not-is_befriended-clause-state
returns-then-not-is_befriended-clause-state c =
    let to = c.args.to.now in
    let none : is_befriended (ended c.args.ends c.args.friends.now).slots to.src ≡ false =
    sym (ap (λ (st : FriendsState). is_befriended st.slots to.src) c.end_if.ensures.state) ∙ cc (c.is_befriended.ensures.value, c.if-not-is_befriended.true) in
    c.end_if.ensures.state
    ∙ none_stored to.unicast to.ttl (heard_as to.reading.now to.key.now to.src) c.args.friends.now c.args.ends (replies_in c.args.replies) none

pub returns-then-not-is_befriended-clause-left : goal.returns-then-not-is_befriended-clause-left
returns-then-not-is_befriended-clause-left c =
    let to = c.args.to.now in
    let none : is_befriended (ended c.args.ends c.args.friends.now).slots to.src ≡ false =
    sym (ap (λ (st : FriendsState). is_befriended st.slots to.src) c.end_if.ensures.state) ∙ cc (c.is_befriended.ensures.value, c.if-not-is_befriended.true) in
    sym (all_sent _ (replies_in c.args.replies) none)

pub store_first-configuration-requires-clause-octet : goal.store_first-configuration-requires-clause-octet
store_first-configuration-requires-clause-octet c =
    first_octet c.args.replies.configuration (map reply_in c.args.replies.models) c.requires.octets

pub store_models-requires-clause-octets : goal.store_models-requires-clause-octets
store_models-requires-clause-octets c =
    rest_octets c.args.replies.configuration (map reply_in c.args.replies.models) c.requires.octets

pub returns-clause-left : goal.returns-clause-left
returns-clause-left c =
    let to = c.args.to.now in
    let stands : is_befriended (ended c.args.ends c.args.friends.now).slots to.src ≡ true =
    sym (ap (λ (st : FriendsState). is_befriended st.slots to.src) c.end_if.ensures.state) ∙ cc (c.is_befriended.ensures.value, c.if-not-is_befriended.false) in
    left_are _ c.args.replies.configuration c.store_first-configuration.result c.args.replies.models c.new.result stands c.new.ensures.value
    c.store_first-configuration.ensures.left c.store_models.ensures.left
