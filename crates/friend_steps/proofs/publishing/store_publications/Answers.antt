use Rattle.std.proofs.Common.{◌∙◌, List, ap}
use Rattle.std.specs.List.{flat_map}
use Rattle.friend_steps.proofs.Published.{friends_are}
use Rattle.friend_steps.specs.Publishing.{row_short}
use Rattle.layer_states.specs.Friends.{FriendsState, after, tick}
use Rattle.node_friends.specs.Steps.{after_sent}
use Rattle.node_models.specs.declared.due.DueRow.{DueRow}
use Rattle.node_records.specs.Tables.{config_in}
use Rattle.friend_steps.proofs.publishing.store_publications.Goals as goal

pub returns-clause-friends : goal.returns-clause-friends
returns-clause-friends c = λ past e means are least is nothing ticked records.
    let row = row_short (config_in c.args.p.now) in
    friends_are c.friends_law.ensures.more past c.args.p.now c.args.friends.now c.store_rows.new.friends c.args.now c.args.due e means are least
    c.requires.time is nothing ticked records
    (c.store_rows.ensures.state
    ∙ ap (λ (st : FriendsState). after_sent st (flat_map row c.as_slice.result.now)) c.tick.ensures.state
    ∙ ap (λ (rows : List DueRow). after_sent (after c.args.friends.now (tick c.args.now)) (flat_map row rows)) c.as_slice.ensures.value)
