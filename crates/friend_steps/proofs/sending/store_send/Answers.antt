use Rattle.std.proofs.Common.{◌∙◌, ◌++◌, [], ◌∷◌, subst, sym}
use Rattle.friend_steps.proofs.Others.{none_read, not_planned, others_leave, send_befriended, send_is}
use Rattle.layer_states.specs.Friends.{FriendsState}
use Rattle.mesh_types.specs.declared.events.Event.TheVariants as E
use Rattle.node_friends.specs.Steps.{AreFriendsOf}
use Rattle.node_records.specs.Tables.{config_in}
use Rattle.friend_steps.proofs.sending.store_send.Goals as goal

pub returns-in-Planned-clause-befriended : goal.returns-in-Planned-clause-befriended
returns-in-Planned-clause-befriended c = λ past are.
    send_befriended past c.args.event.now _ _ _ _ _ c.is_befriended-befriended.result c.in-Send.is
    (c.is_befriended-befriended.ensures.past past are)

pub returns-in-Planned-clause-friends : goal.returns-in-Planned-clause-friends
returns-in-Planned-clause-friends c = λ past e means are still is nothing answered records.
    subst (λ (s : FriendsState). AreFriendsOf s (past.told ++ e ∷ [])) (sym c.send_short.ensures.state)
    (send_is c.friends_law.ensures.more past c.args.friends.now e (config_in c.args.p.now)
    (E.Send c.in-Send.element c.in-Send.dst c.in-Send.ttl c.in-Send.key c.in-Send.payload) are means.config (is ∙ c.in-Send.is) nothing
    (answered ∙ c.in-Planned.is) records)

pub returns-in_default-answer : goal.returns-in_default-answer
returns-in_default-answer c = record {
  befriended = λ past are.
      send_befriended past c.args.event.now _ _ _ _ _ c.is_befriended-befriended.result c.in-Send.is
      (c.is_befriended-befriended.ensures.past past are);
  friends = λ past e means are still is nothing answered records.
      others_leave c.friends_law.ensures.more c.args.friends.now past.told e are (none_read e nothing)
      (not_planned e c.args.event.now _ _ _ _ _ c.args.answer.now is c.in-Send.is answered c.in_default-answer.not-Planned still);
}
