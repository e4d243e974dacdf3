use Rattle.std.proofs.Common.{◌∙◌, ◌++◌, List, ap, append_assoc}
use Rattle.std.specs.List.{flat_map}
use Rattle.mesh_jobs.proofs.Published.{published_are, sent_heartbeat}
use Rattle.mesh_jobs.specs.Publishing.{sent_row}
use Rattle.mesh_types.specs.declared.jobs.Job.{Job}
use Rattle.node_models.specs.declared.due.DueRow.{DueRow}
use Rattle.node_records.specs.Tables.{config_in}
use Rattle.mesh_jobs.proofs.publishing.push_publications.Goals as goal

pub returns-clause-value : goal.returns-clause-value
returns-clause-value c past ticks due =
    let n = config_in c.args.p.now in
    c.push_heartbeat.ensures.value
    ∙ ap (λ (js : List Job). js ++ sent_heartbeat n c.args.due.now.heartbeat)
    (c.push_rows.ensures.value
    ∙ ap (λ (rows : List DueRow). c.args.jobs.now ++ flat_map (sent_row n) rows) c.as_slice.ensures.value)
    ∙ append_assoc c.args.jobs.now (flat_map (sent_row n) c.args.due.now.rows)
    (sent_heartbeat n c.args.due.now.heartbeat)
    ∙ ap (λ (js : List Job). c.args.jobs.now ++ js) (published_are past n ticks c.args.due.now due)
