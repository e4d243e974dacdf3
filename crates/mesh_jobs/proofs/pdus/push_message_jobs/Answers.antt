use Rattle.std.proofs.Common.{◌∙◌, ◌++◌, List, Option, Some, ap, subst, sym}
use Rattle.std.specs.Prelude.{[], fold}
use Rattle.std.specs.List.{flat_map}
use Rattle.std.specs.Option.{option_map, option_map_or}
use Rattle.layer_definitions.specs.ControlReading.{control_of}
use Rattle.layer_states.specs.Friends.{after}
use Rattle.mesh_base.specs.declared.keys.UpperKey.{UpperKey}
use Rattle.mesh_jobs.proofs.Replied.{none_asked, replies_are}
use Rattle.mesh_jobs.proofs.Rounds.{none_put}
use Rattle.mesh_jobs.specs.Acting.{IsActIn}
use Rattle.mesh_jobs.specs.Hearing.{insight_of}
use Rattle.mesh_jobs.specs.Replying.{AreRepliesTo, heard_as}
use Rattle.mesh_reading.specs.Held.{reading_of}
use Rattle.mesh_types.specs.declared.answers.Answer.{Answer}
use Rattle.mesh_types.specs.declared.jobs.Job.{Job}
use Rattle.node_layers.specs.ConfiguredLayers.{sent_reply}
use Rattle.node_layers.specs.Friendship.{friends, heard_calls}
use Rattle.node_layers.specs.NodeLayers.{node_layers}
use Rattle.node_models.specs.Replies.{replies_in}
use Rattle.node_records.specs.Tables.{config_in}
use Rattle.event_definitions.specs.History.{now_of, Opening}
use Rattle.event_definitions.specs.Jobs.{message_jobs}
use Rattle.mesh_jobs.proofs.pdus.push_message_jobs.Goals as goal

pub returns-in_default-clause-value : goal.returns-in_default-clause-value
returns-in_default-clause-value c past low opening key replies act =
    none_put _ _ (none_asked past (config_in c.args.p.now) (reading_of c.args.r.now)
    (insight_of (Some c.args.r.now) low opening) c.args.answer.now c.in_default.not-Control c.in_default.not-Delivered)

pub returns-in-Control-clause-value : goal.returns-in-Control-clause-value
unfolding node_layers
returns-in-Control-clause-value c past low opening key replies act =
    let n = config_in c.args.p.now in
    let r = c.args.r.now in
    let d = c.in-Control in
    let insight = insight_of (Some r) low opening in
    c.push_friend_jobs.ensures.value (fold after (friends past) (heard_calls (reading_of r))) (now_of past.told) (control_of d.opcode d.params)
    (subst (λ (a : Answer). IsActIn past n insight a c.args.basis.now.act) d.is act)
    ∙ ap (λ (a : Answer). c.args.jobs.now ++ message_jobs node_layers past n (reading_of r) insight a) (sym d.is)

pub returns-in-Delivered-clause-value : goal.returns-in-Delivered-clause-value
returns-in-Delivered-clause-value c past low opening key replies act =
    let n = config_in c.args.p.now in
    let r = c.args.r.now in
    let d = c.in-Delivered in
    let insight = insight_of (Some r) low opening in
    c.push_delivered.ensures.value
    ∙ ap (λ (k : Option UpperKey). c.args.jobs.now ++ option_map_or (λ (k : UpperKey). flat_map (sent_reply n (heard_as r k d.name.src)) (replies_in c.args.basis.now.replies)) k []) (ap (λ (o : Option Opening). option_map (λ (p : Opening). p.key) o) key)
    ∙ ap (λ (js : List Job). c.args.jobs.now ++ js)
    (replies_are past n r low opening d.name d.dst d.key d.payload c.args.basis.now.replies
    (subst (λ (a : Answer). AreRepliesTo past insight a c.args.basis.now.replies) d.is replies)
    ∙ ap (λ (a : Answer). message_jobs node_layers past n (reading_of r) insight a) (sym d.is))
