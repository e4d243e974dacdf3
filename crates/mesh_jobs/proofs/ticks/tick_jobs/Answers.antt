use Rattle.std.proofs.Common.{◌≡◌, ◌++◌, ℕ, List, ap, sym, ◌∙◌}
use Rattle.std.specs.List.{flat_map}
use Rattle.layer_states.specs.Reassembly.{acks_due}
use Rattle.layer_states.specs.declared.reassembly.DueAck.{DueAck}
use Rattle.layer_states.specs.declared.sending.Sending.{Sending}
use Rattle.mesh_jobs.proofs.Rounds.{jobs_are, no_time_jobs, rounds_are}
use Rattle.mesh_types.specs.declared.answers.Answer.{Answer}
use Rattle.mesh_types.specs.declared.events.Event.TheVariants as E
use Rattle.mesh_types.specs.declared.jobs.Job.{Job}
use Rattle.node_layers.specs.NodeLayers.{node_layers, published_at}
use Rattle.node_layers.specs.Reassembly.{due_jobs, messages}
use Rattle.node_layers.specs.Sending.{round_jobs}
use Rattle.node_layers.specs.Sending as own
use Rattle.node_records.specs.Tables.{config_in}
use Rattle.event_definitions.specs.Answers.{later}
use Rattle.event_definitions.specs.Jobs.{beacons_due, jobs_of}
use Rattle.mesh_jobs.proofs.ticks.tick_jobs.Goals as goal

pub returns-clause-value : goal.returns-clause-value
returns-clause-value c past ticks insight span are =
    let due = are c.in-Ticked.now c.in-Ticked.is in
    let n = config_in c.args.p.now in
    let to = later past ticks in
    let sent = own.messages past in
    let basis = c.args.basis.now in
    let rows : flat_map (round_jobs n basis.span.to) c.as_slice.result.now ≡ flat_map (round_jobs n to) sent =
    ap (λ (rs : List Sending). flat_map (round_jobs n basis.span.to) rs) c.as_slice.ensures.value
    ∙ ap (λ (at : ℕ). flat_map (round_jobs n at) basis.rounds.items) span.to
    ∙ ap (λ (rs : List Sending). flat_map (round_jobs n to) rs) due.rounds
    ∙ rounds_are n to sent in
    c.finish-2.ensures.value
    ∙ c.push_publications.ensures.value past ticks due.published
    ∙ ap (λ (js : List Job). js ++ published_at past n ticks)
    (c.push_beacons_due.ensures.value past ticks span
    ∙ ap (λ (js : List Job). js ++ beacons_due past n ticks)
    (c.push_rounds.ensures.value
    ∙ ap (λ (js : List Job). js ++ flat_map (round_jobs n basis.span.to) c.as_slice.result.now)
    (c.push_acks.ensures.value
    ∙ ap (λ (js : List Job). js ++ flat_map (due_jobs n) basis.acks) c.requires.empty
    ∙ ap (λ (list : List DueAck). flat_map (due_jobs n) list) due.acks)
    ∙ ap (λ (js : List Job). flat_map (due_jobs n) (acks_due to (messages past)) ++ js) rows))
    ∙ jobs_are past n ticks c.in-Ticked.now insight
    ∙ ap (λ (a : Answer). jobs_of node_layers past n (E.Tick ticks) insight a) (sym c.in-Ticked.is)

pub returns-in_default-clause-value : goal.returns-in_default-clause-value
returns-in_default-clause-value c past ticks insight span are =
    c.finish.ensures.value ∙ c.requires.empty ∙ no_time_jobs past (config_in c.args.p.now) ticks insight c.args.answer.now c.in_default.not-Ticked
