use Rattle.std.proofs.Common.{◌≡◌, ◌∙◌, Option, Some, None, ap, subst, sym}
use Rattle.std.specs.Option.{option_map, option_map_or}
use Rattle.std.specs.Prelude.{IfSome}
use Rattle.app_keys.specs.AppRows.{HasAidWidth}
use Rattle.friend_steps.specs.Replying.{ended, replied_left}
use Rattle.layer_states.specs.Friends.{is_befriended}
use Rattle.mesh_hearing.specs.Heard.{delivered_from, insight_of, message_delivered}
use Rattle.mesh_jobs.specs.Replying.{replies_sent}
use Rattle.mesh_reading.specs.declared.opening.Opened.{Opened}
use Rattle.node_models.specs.Replies.{replies_in}
use Rattle.event_definitions.specs.Layers.{AccessMessage}
use Rattle.friend_steps.proofs.hearing.hear_replies.Goals as goal

pub returns-in_default-clause-state : goal.returns-in_default-clause-state
returns-in_default-clause-state c =
    let h = c.args.heard.now in
    let t = c.args.taken in
    let none : None ≡ delivered_from (insight_of h) h.answer = sym (ap (option_map message_delivered) c.in_default.is) ∙ c.delivered.ensures.value in
    ap (λ (o : Option AccessMessage). option_map_or (λ (m : AccessMessage). replied_left c.args.friends.now c.args.p.now.unicast t.ttl t.ends m (replies_in t.replies)) o c.args.friends.now) none

pub returns-in_default-clause-left : goal.returns-in_default-clause-left
returns-in_default-clause-left c =
    let h = c.args.heard.now in
    let t = c.args.taken in
    let none : None ≡ delivered_from (insight_of h) h.answer = sym (ap (option_map message_delivered) c.in_default.is) ∙ c.delivered.ensures.value in
    ap (λ (o : Option AccessMessage). option_map_or (λ (m : AccessMessage). replies_sent (is_befriended (ended t.ends c.args.friends.now).slots m.name.src) (replies_in t.replies)) o (replies_in t.replies)) none

pub store_replies-requires-clause-key : goal.store_replies-requires-clause-key
store_replies-requires-clause-key c =
    subst (λ (o : Option Opened). IfSome o (λ (x : Opened). HasAidWidth x.key)) c.in-Some.ensures.opened c.requires.opened

pub returns-clause-state : goal.returns-clause-state
returns-clause-state c =
    let h = c.args.heard.now in
    let t = c.args.taken in
    c.store_replies.ensures.state
    ∙ ap (λ (o : Option AccessMessage). option_map_or (λ (m : AccessMessage). replied_left c.args.friends.now c.args.p.now.unicast t.ttl t.ends m (replies_in t.replies)) o c.args.friends.now)
    c.in-Some.ensures.value

pub returns-clause-left : goal.returns-clause-left
returns-clause-left c =
    let h = c.args.heard.now in
    let t = c.args.taken in
    c.store_replies.ensures.left
    ∙ ap (λ (o : Option AccessMessage). option_map_or (λ (m : AccessMessage). replies_sent (is_befriended (ended t.ends c.args.friends.now).slots m.name.src) (replies_in t.replies)) o (replies_in t.replies))
    c.in-Some.ensures.value
