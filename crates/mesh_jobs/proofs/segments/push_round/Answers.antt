use Rattle.std.proofs.Common.{◌≡◌, ◌∙◌, ◌++◌, ap, sym, None, Some, cond, false, []}
use Rattle.std.specs.Prelude.{◌&&◌, not}
use Rattle.layer_definitions.specs.KeyRefresh.{transmit_material}
use Rattle.layer_states.specs.Sending.{is_due, is_last, round_of}
use Rattle.event_definitions.specs.Jobs.{under, segment_job}
use Rattle.node_records.specs.Tables.{config_in}
use Rattle.mesh_jobs.specs.Segments.{segments_under}
use Rattle.mesh_jobs.proofs.Rounds.{none_put, of_due, places_due, under_none, under_some}
use Rattle.mesh_jobs.proofs.segments.push_round.Goals as goal

pub returns-in_default-clause-value : goal.returns-in_default-clause-value
returns-in_default-clause-value c =
    let s = c.args.s.now in
    let due = is_due c.args.now s && not (is_last s) in
    let lacks : transmit_material c.args.p.now.nets s.message.net ≡ None = cc (c.transmit.ensures.value, c.in_default.is, c.requires.nets) in
    none_put _ _ (sym (of_due due (λ i. under (config_in c.args.p.now) s.message.net (segment_job false s.message i)) (round_of s))
    ∙ under_none (segment_job false s.message) _ (cond due (round_of s) []) lacks)

pub push_again-requires-clause-places : goal.push_again-requires-clause-places
push_again-requires-clause-places c =
    let s = c.args.s.now in
    rw (c.as_slice.ensures.value, c.round_due-round.ensures.value)
    (places_due (is_due c.args.now s && not (is_last s)) s c.requires.held.left)

pub returns-clause-value : goal.returns-clause-value
returns-clause-value c =
    let s = c.args.s.now in
    let due = is_due c.args.now s && not (is_last s) in
    let held : transmit_material c.args.p.now.nets s.message.net ≡ Some c.in-Some.material = cc (c.transmit.ensures.value, c.in-Some.is, c.requires.nets) in
    let round : c.as_slice.result.now ≡ cond due (round_of s) [] = c.as_slice.ensures.value ∙ c.round_due-round.ensures.value in
    c.push_again.ensures.value
    ∙ ap (λ js. c.args.jobs.now ++ js)
    (ap (λ is. segments_under c.in-Some.material s.message is) round
    ∙ sym (under_some (segment_job false s.message) _ c.in-Some.material (cond due (round_of s) []) held)
    ∙ of_due due (λ i. under (config_in c.args.p.now) s.message.net (segment_job false s.message i)) (round_of s))
