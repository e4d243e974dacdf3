use Rattle.std.proofs.Common.{◌∙◌, ap}
use Rattle.friend_steps.proofs.Heard.{friends_are, replies_are}
use Rattle.friend_steps.proofs.Readings.{opened_well, read_well}
use Rattle.friend_steps.specs.Hearing.{message_left, replies_left}
use Rattle.layer_states.specs.Friends.{FriendsState}
use Rattle.mesh_hearing.specs.Heard.{insight_of}
use Rattle.node_models.specs.Replies.{replies_in}
use Rattle.node_records.specs.Tables.{config_in}
use Rattle.friend_steps.proofs.hearing.hear_friends.Goals as goal

pub hear_pdu-requires : goal.hear_pdu-requires
hear_pdu-requires c = record { read = read_well c.args.heard.now c.requires.read.0 c.requires.read.1 c.requires.read.3 }

pub hear_control-act-requires-clause-read : goal.hear_control-act-requires-clause-read
hear_control-act-requires-clause-read c = read_well c.args.heard.now c.requires.read.0 c.requires.read.1 c.requires.read.3

pub hear_replies-replies-requires-clause-opened : goal.hear_replies-replies-requires-clause-opened
hear_replies-replies-requires-clause-opened c = opened_well c.args.heard.now c.requires.read.0 c.requires.read.1 c.requires.read.3

pub returns-clause-replies : goal.returns-clause-replies
returns-clause-replies c = λ past stand taken.
    let h = c.args.heard.now in
    replies_are past c.args.friends.now c.args.taken.ttl c.args.taken.ends c.args.taken.replies c.hear_replies-replies.result (insight_of h) stand.friends
    (config_in c.args.p.now) c.args.now h.answer c.hear_pdu.new.friends c.hear_pdu.ensures.befriended
    (c.hear_replies-replies.ensures.left
    ∙ ap (λ (st : FriendsState). replies_left st c.args.taken.ends (replies_in c.args.taken.replies) (insight_of h) h.answer) c.hear_control-act.ensures.state)
    taken

pub returns-clause-friends : goal.returns-clause-friends
returns-clause-friends c = λ past e octets stand taken still event same answered records.
    let h = c.args.heard.now in
    friends_are c.node_models_law.ensures.unicast past c.args.p.now c.args.friends.now c.args.now stand c.args.taken.ttl c.args.taken.ends c.args.taken.replies
    (insight_of h) c.friends_law.ensures.more e octets h.answer c.hear_pdu.new.friends c.hear_replies-replies.new.friends same answered event records
    c.hear_pdu.ensures.state c.hear_pdu.ensures.polls taken still
    (c.hear_replies-replies.ensures.state
    ∙ ap (λ (st : FriendsState). message_left st c.args.p.now.unicast c.args.taken.ttl c.args.taken.ends (replies_in c.args.taken.replies) (insight_of h) h.answer)
    c.hear_control-act.ensures.state)
