use Rattle.std.proofs.Common.{ap, ◌∙◌, length, arith}
use Rattle.job_sealing.specs.Sealed.{begins, long_outcome, short_outcome}
use Rattle.job_sealing.proofs.Showing.{sent_long, sent_short}
use Rattle.job_sealing.proofs.lines.sent_line.Goals as goal
use Rattle.std.specs.Prelude.{◌∷◌, []}

pub returns-then-as_slice-le-UNSEGMENTED-clause-sent :
    goal.returns-then-as_slice-le-UNSEGMENTED-clause-sent
returns-then-as_slice-le-UNSEGMENTED-clause-sent c =
    let a = c.args.access.now in
    let s = c.in-Send in
    sent_short c.args.event.now a s.element s.ttl s.dst s.key s.payload _ _ s.is (omega (arith, c.if-as_slice-le-UNSEGMENTED.true, ap length c.as_slice.ensures.value))
    (c.short_line.ensures.value ∙ ap (short_outcome a) c.as_slice-then-as_slice-le-UNSEGMENTED.ensures.value) c.short_line.ensures.next

pub returns-else-as_slice-le-UNSEGMENTED-clause-sent :
    goal.returns-else-as_slice-le-UNSEGMENTED-clause-sent
returns-else-as_slice-le-UNSEGMENTED-clause-sent c =
    let a = c.args.access.now in
    let s = c.in-Send in
    let same = c.as_slice-else-as_slice-le-UNSEGMENTED.ensures.value in
    sent_long c.args.event.now a s.element s.ttl s.dst s.key s.payload _ _ s.is (omega (arith, c.if-as_slice-le-UNSEGMENTED.false, ap length c.as_slice.ensures.value))
    (c.long_line.ensures.value ∙ ap (long_outcome a) same) (c.long_line.ensures.next ∙ ap (λ x. begins a x ∷ []) same)
