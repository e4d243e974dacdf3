use Rattle.std.proofs.Common.{◌≡◌, ℕ, map, None, refl, sym, subst, ◌∙◌, arith}
use Rattle.std.specs.Prelude.{All}
use Rattle.std.proofs.lemmas.Option.{IfSome_then}
use Rattle.node_bearer.specs.Did.{AreEvents}
use Rattle.live_lines.proofs.Events.{lists_fit, lists_long}
use Rattle.live_lines.proofs.Nexts.{fails_from, fails_now, given, none_of}
use Rattle.live_lines.specs.Sources.{IsLiveFor}
use Rattle.live_lines.specs.States.{lines_behind}
use Rattle.live_lines.specs.Turns.{IsFrontOf}
use Rattle.live_lines.proofs.source.LinePhasesPhaseSource.next.Goals as goal

pub returns-in-Ok-clause-long : goal.returns-in-Ok-clause-long
returns-in-Ok-clause-long g c =
    let lines = c.args.self.now.lines in
    let same : lines.bearers ≡ c.args.bearers = omega arith in
    IfSome_then c.in-Ok.phase c.in-Ok.ensures.line (λ lists h. lists_long lines.bearers lines.elements lists.items h ∙ same)

pub returns-in-Ok-clause-events : goal.returns-in-Ok-clause-events
returns-in-Ok-clause-events g c =
    let lines = c.args.self.now.lines in
    let same : lines.elements ≡ c.args.elements = omega arith in
    IfSome_then c.in-Ok.phase c.in-Ok.ensures.line
    (λ lists h. subst (λ (n : ℕ). All (λ v. AreEvents n v.items) lists.items) same (lists_fit lines.bearers lines.elements lists.items h))

pub returns-in-Ok-clause-gives : goal.returns-in-Ok-clause-gives
returns-in-Ok-clause-gives g c =
    let at = lines_behind g.S.Source.left g.S.Source.faults g.S.ClockedSource.time g.E.Sink.held g.E.Sink.pieces g.E.Sink.faults in
    let old = c.args.self.now in
    let new = c.next_phase.new.self in
    let none : old.lines.why ≡ None = none_of old.lines.why (sym c.is_some.ensures ∙ c.if-is_some.false) in
    given (λ lists. map (λ v. v.items) lists.items) c.in-Ok.phase old.lines.bearers old.lines.elements g.S.ClockedSource.clocked new.front
    (λ used. at used old.lines) (λ now. at now new.lines) (λ used. IsFrontOf old.front used) (IsLiveFor c.args.bearers c.args.elements old new) ((omega arith, omega arith), (none, c.in-Ok.ensures.frame)) c.in-Ok.ensures.ok

pub returns-in-Err-clause-fails : goal.returns-in-Err-clause-fails
returns-in-Err-clause-fails g c =
    let old = c.args.self.now in
    let none : old.lines.why ≡ None = none_of old.lines.why (sym c.is_some.ensures ∙ c.if-is_some.false) in
    let frame = c.in-Err.ensures.frame in
    fails_now g.S.ClockedSource.clocked g.S.Source.left g.S.Source.faults g.S.ClockedSource.time g.E.Sink.held g.E.Sink.pieces g.E.Sink.faults c.args.bearers c.args.elements old _ none c.in-Err.why
    (record {
      kept = refl;
      node = (frame.1, frame.2);
      fails = λ used is. fails_from g.S.ClockedSource.clocked g.S.Source.left g.S.Source.faults g.S.ClockedSource.time g.E.Sink.held g.E.Sink.pieces g.E.Sink.faults c.args.bearers c.args.elements old _ c.in-Err.why used (c.in-Err.ensures.stop used is);
    })
