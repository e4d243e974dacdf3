use Rattle.std.proofs.Common.{◌≡◌, ap, sym, ◌∙◌, length, arith}
use Rattle.job_sealing.specs.declared.messages.Access.{Access}
use Rattle.job_sealing.specs.Sealed.{access_in, long_outcome, short_outcome}
use Rattle.mesh_types.specs.declared.jobs.Job.{Job}
use Rattle.run_definitions.specs.Lines.{shows_long, shows_msg}
use Rattle.job_sealing.proofs.Showing.{shown, some_is}
use Rattle.job_sealing.proofs.lines.message_line.Goals as goal

pub returns-then-as_slice-le-UNSEGMENTED-clause-shows :
    goal.returns-then-as_slice-le-UNSEGMENTED-clause-shows
returns-then-as_slice-le-UNSEGMENTED-clause-shows c event =
    let m = c.in-Message in
    let a : Access = record { net = m.net; material = m.material; key = m.key; pair = c.args.pair; ttl = m.ttl; src = m.src; dst = m.dst } in
    let same : c.in-Some.access ≡ a = some_is (sym c.in-Some.is ∙ c.access_of.ensures ∙ ap (λ (j : Job). access_in j c.args.pair) m.is) in
    shown event _ _ _ _ m.is (c.short_line.ensures.value ∙ ap (λ (x : Access). short_outcome x c.as_slice-then-as_slice-le-UNSEGMENTED.result.now) same ∙ ap (short_outcome a) c.as_slice-then-as_slice-le-UNSEGMENTED.ensures.value)
    (shows_msg (omega (arith, c.if-as_slice-le-UNSEGMENTED.true, ap length c.as_slice.ensures.value)))

pub returns-else-as_slice-le-UNSEGMENTED-clause-shows :
    goal.returns-else-as_slice-le-UNSEGMENTED-clause-shows
returns-else-as_slice-le-UNSEGMENTED-clause-shows c event =
    let m = c.in-Message in
    let a : Access = record { net = m.net; material = m.material; key = m.key; pair = c.args.pair; ttl = m.ttl; src = m.src; dst = m.dst } in
    let same : c.in-Some.access ≡ a = some_is (sym c.in-Some.is ∙ c.access_of.ensures ∙ ap (λ (j : Job). access_in j c.args.pair) m.is) in
    shown event _ _ _ _ m.is (c.long_line.ensures.value ∙ ap (λ (x : Access). long_outcome x c.as_slice-else-as_slice-le-UNSEGMENTED.result.now) same ∙ ap (long_outcome a) c.as_slice-else-as_slice-le-UNSEGMENTED.ensures.value)
    (shows_long (omega (arith, c.if-as_slice-le-UNSEGMENTED.false, ap length c.as_slice.ensures.value)))
