use Rattle.std.proofs.Common.{◌≡◌, ◌∙◌, Some, None, false, ap, arith, sym}
use Rattle.std.specs.Prelude.{length, nat_le, slice_index_or, slice_set}
use Rattle.std.specs.List.{position}
use Rattle.std.proofs.lemmas.Bool.Decides.{nat_tests}
use Rattle.node_limits.specs.declared.TheConstants.{MESSAGES_IN_PROGRESS}
use Rattle.layer_states.specs.Names.{is_name}
use Rattle.layer_states.specs.Reassembly.{begun, judged, judged_after}
use Rattle.mesh_base.proofs.Every.{refill_same}
use Rattle.segment_reassembly.proofs.Messages.{noted_held, taken_held, taken_new}
use Rattle.segment_reassembly.proofs.rows.take_in.Goals as goal

pub returns-in-Some-clause-value : goal.returns-in-Some-clause-value
returns-in-Some-clause-value c =
    let d = begun c.args.now c.args.h.now in
    let placed : position (λ a. is_name c.args.h.now.name a.name) c.args.rows.now.items ≡ Some c.in-Some.place =
    rw c.as_slice.ensures.value at (sym c.place_of.ensures ∙ c.in-Some.is) in
    c.judge_at.ensures.value d
    ∙ ap (λ rows. judged (slice_index_or rows c.in-Some.place d) c.args.now c.args.h.now) c.as_mut_slice.ensures.value
    ∙ sym (taken_held c.args.rows.now.items c.args.now c.args.h.now c.in-Some.place placed)

pub returns-in-Some-clause-state : goal.returns-in-Some-clause-state
returns-in-Some-clause-state c =
    let d = begun c.args.now c.args.h.now in
    let placed : position (λ a. is_name c.args.h.now.name a.name) c.args.rows.now.items ≡ Some c.in-Some.place =
    rw c.as_slice.ensures.value at (sym c.place_of.ensures ∙ c.in-Some.is) in
    refill_same c.args.rows.now.items c.judge_at.new.rows (c.judge_at.auto.rows ∙ ap (λ rows. length rows) c.as_mut_slice.ensures.value)
    ∙ c.judge_at.ensures.state d
    ∙ ap (λ rows. slice_set rows c.in-Some.place (judged_after (slice_index_or rows c.in-Some.place d) c.args.now c.args.h.now)) c.as_mut_slice.ensures.value
    ∙ sym (noted_held c.args.rows.now.items c.args.now c.args.h.now c.in-Some.place placed)

pub returns-clause-value : goal.returns-clause-value
returns-clause-value c =
    let lacks : position (λ a. is_name c.args.h.now.name a.name) c.args.rows.now.items ≡ None =
    rw c.as_slice.ensures.value at (sym c.place_of.ensures ∙ c.in-None.is) in
    let room : nat_le MESSAGES_IN_PROGRESS (length c.args.rows.now.items) ≡ false = grind (arith, nat_tests, c.is_full.ensures.value, c.is_full.ensures.fits) in
    rw (c.judge-taken.ensures.value, c.begun-message.ensures) (sym (taken_new c.args.rows.now.items c.args.now c.args.h.now lacks room).0)

pub returns-clause-state : goal.returns-clause-state
returns-clause-state c =
    let lacks : position (λ a. is_name c.args.h.now.name a.name) c.args.rows.now.items ≡ None =
    rw c.as_slice.ensures.value at (sym c.place_of.ensures ∙ c.in-None.is) in
    let room : nat_le MESSAGES_IN_PROGRESS (length c.args.rows.now.items) ≡ false = grind (arith, nat_tests, c.is_full.ensures.value, c.is_full.ensures.fits) in
    rw (c.push.ensures.items, c.judge-taken.ensures.state, c.begun-message.ensures) (sym (taken_new c.args.rows.now.items c.args.now c.args.h.now lacks room).1)
