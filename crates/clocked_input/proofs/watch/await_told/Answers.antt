use Rattle.std.proofs.Common.{ap₂, sym, ◌∙◌}
use Rattle.clocked_input.specs.Telling.{told_now}
use Rattle.clocked_input.proofs.Watching.{told_by, unwatched_yet, waited}
use Rattle.clocked_input.proofs.watch.await_told.Goals as goal

pub loop-look-init : goal.loop-look-init
loop-look-init g c = unwatched_yet c.args.told c.args.due (g.W.Watch.view c.args.watch.now)

pub loop-look-preserved : goal.loop-look-preserved
loop-look-preserved g c =
    let view = g.W.Watch.view in
    let sight = c.in_ok-sight.sight in
    waited c.args.told c.args.due (view c.args.watch.now) (view c.loop-look.watch) (view c.look.new.self) (view c.wait.new.self) sight.ready sight.nanos c.left_to.result
    c.loop-look.invariant c.in_ok-sight.ensures.looked c.wait.ensures.waited c.left_to.ensures.value

pub returns-in-Some-clause-known : goal.returns-in-Some-clause-known
returns-in-Some-clause-known g c =
    let view = g.W.Watch.view in
    let sight = c.in_ok-sight.sight in
    told_by c.args.at_hand c.args.told_time c.args.told c.args.due c.in-Some.awaited (view c.args.watch.now) (view c.loop-look.watch) (view c.look.new.self) sight.ready sight.nanos
    c.loop-look.invariant c.in_ok-sight.ensures.looked
    (ap₂ (λ ready n. told_now ready c.args.told_time n c.args.due) (sym c.is_ready.ensures.value) (sym c.passed_at-passed.ensures.value) ∙ sym c.told_now.ensures.value ∙ c.in-Some.is)
