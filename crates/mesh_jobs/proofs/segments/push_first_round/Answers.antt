use Rattle.std.proofs.Common.{◌≡◌, ◌∙◌, ◌+◌, ◌++◌, ap, sym, List, None, Some, ℕ, arith, ◌∷◌, [], map, length}
use Rattle.std.specs.List.{range_with_len}
use Rattle.std.proofs.lemmas.List.{length-append}
use Rattle.std.proofs.lemmas.List.FromFn.{map-range_with_len_more}
use Rattle.layer_definitions.specs.KeyRefresh.{transmit_material}
use Rattle.layer_definitions.specs.Lower.{last_segment}
use Rattle.mesh_base.specs.declared.fields.NetMaterial.{NetMaterial}
use Rattle.mesh_types.specs.declared.jobs.Job.{Job}
use Rattle.event_definitions.specs.Jobs.{first_round_job}
use Rattle.mesh_jobs.proofs.Rounds.{none_put, one_put, under_none, under_some}
use Rattle.mesh_jobs.proofs.segments.push_first_round.Goals as goal

pub returns-in_default-clause-value : goal.returns-in_default-clause-value
returns-in_default-clause-value c =
    let m = c.args.m.now in
    let job : ℕ → NetMaterial → Job = first_round_job m in
    let lacks : transmit_material c.args.p.now.nets m.net ≡ None = cc (c.transmit.ensures.value, c.in_default.is, c.requires.nets) in
    none_put _ _ (under_none job _ (range_with_len 0 (last_segment m.upper + 1)) lacks)

pub loop-seg_o-preserved : goal.loop-seg_o-preserved
loop-seg_o-preserved c =
    let m = c.args.m.now in
    let job : ℕ → Job = λ i. first_round_job m i c.in-Some.material in
    let i = c.loop-seg_o.seg_o in
    let same : 0 + i ≡ i = omega arith in
    let more : map job (range_with_len 0 (i + 1)) ≡ map job (range_with_len 0 i) ++ c.segment_job.result ∷ [] =
    map-range_with_len_more job 0 i i same ∙ ap (λ j. map job (range_with_len 0 i) ++ j ∷ []) (sym c.segment_job.ensures) in
    record {
      segments = c.push.ensures.value ∙ one_put _ _ _ _ _ c.loop-seg_o.invariant.segments more;
      length = omega (arith, ap (λ (js : List Job). length js) c.push.ensures.value, length-append c.loop-seg_o.jobs (c.segment_job.result ∷ []), c.loop-seg_o.invariant.length);
    }

pub returns-clause-value : goal.returns-clause-value
returns-clause-value c =
    let m = c.args.m.now in
    let job : ℕ → NetMaterial → Job = first_round_job m in
    let held : transmit_material c.args.p.now.nets m.net ≡ Some c.in-Some.material = cc (c.transmit.ensures.value, c.in-Some.is, c.requires.nets) in
    let last : c.last_segment-seg_o-end.result ≡ last_segment m.upper = c.last_segment-seg_o-end.ensures.value ∙ ap (λ (upper : List ℕ). last_segment upper) c.as_slice.ensures.value in
    let all : c.loop-seg_o.seg_o ≡ last_segment m.upper + 1 = omega (arith, last, c.loop-seg_o-test.false, c.loop-seg_o.auto.seg_o-end) in
    c.loop-seg_o.invariant.segments
    ∙ ap (λ js. c.args.jobs.now ++ js)
    (ap (λ n. map (λ i. job i c.in-Some.material) (range_with_len 0 n)) all
    ∙ sym (under_some job _ c.in-Some.material (range_with_len 0 (last_segment m.upper + 1)) held))
