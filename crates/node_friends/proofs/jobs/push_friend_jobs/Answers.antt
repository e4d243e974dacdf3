use Rattle.std.proofs.Common.{◌∙◌, List, ◌++◌, ap}
use Rattle.mesh_reading.specs.Held.{reading_of}
use Rattle.mesh_types.specs.declared.jobs.Job.{Job}
use Rattle.node_friends.proofs.ActJobs.{jobs_are}
use Rattle.node_friends.specs.Acts.{jobs_of_act}
use Rattle.node_friends.specs.declared.acts.FriendAct.{FriendAct}
use Rattle.node_records.specs.Tables.{config_in}
use Rattle.node_friends.proofs.jobs.push_friend_jobs.Goals as goal

pub returns-clause-value : goal.returns-clause-value
returns-clause-value c st now m is =
    let says = config_in c.args.p.now in
    let r = reading_of c.args.r.now in
    c.push_act.ensures.value
    ∙ ap (λ (js : List Job). c.args.jobs.now ++ js) (ap (λ (act : FriendAct). jobs_of_act says r act) is ∙ jobs_are says st now r m)
