use Rattle.std.proofs.Common.{◌∙◌, ap, subst, sym}
use Rattle.machine_contract.specs.Opening.{found_of}
use Rattle.store_definitions.specs.Recovered.{IsRecovered}
use Rattle.mesh_node.specs.Due.{IsDueSince}
use Rattle.mesh_node.specs.Given.{Stood}
use Rattle.mesh_node.specs.Lived.{FellShort, LivedOn, WentOn}
use Rattle.mesh_node.proofs.Telling.{on_err, short_first}
use Rattle.mesh_node.proofs.Whole.{lived_left}
use Rattle.mesh_node.proofs.going.live_on.Goals as goal

pub returns-in_err-life-clause-short : goal.returns-in_err-life-clause-short
returns-in_err-life-clause-short g c =
    let s = c.requires.started in
    on_err c.from_residual.result (short_first g.M.Machine.role (IsDueSince g.M.Machine.role g.M.Machine.quiet (g.F.Flash.chip c.args.beginning.start)) g.S.PhaseSource.steps g.T.PhaseSink.steps c.args.source.now c.args.sink.now c.args.beginning.bearers (g.F.Flash.chip c.args.beginning.start) s.over s.read)

pub returns-in_err-gone-clause-short : goal.returns-in_err-gone-clause-short
returns-in_err-gone-clause-short g c =
    let chip = g.F.Flash.chip in
    let S = g.S.PhaseSource.steps in
    let T = g.T.PhaseSink.steps in
    let begun = c.in_ok-life.ensures in
    let start = c.in_ok-life.life.node.start in
    on_err c.from_residual-in_err-gone.result
    (subst (λ f. FellShort g.M.Machine.role (IsDueSince g.M.Machine.role g.M.Machine.quiet (chip f)) S T c.args.source.now c.go_on.new.source c.args.sink.now c.go_on.new.sink c.args.beginning.bearers (chip f)) begun.start
    (subst (λ n. FellShort g.M.Machine.role (IsDueSince g.M.Machine.role g.M.Machine.quiet (chip start)) S T c.args.source.now c.go_on.new.source c.args.sink.now c.go_on.new.sink n (chip start)) begun.bearers c.in_err-gone.ensures.short))

pub returns-clause-lived : goal.returns-clause-lived
returns-clause-lived g c =
    let chip = g.F.Flash.chip in
    let S = g.S.PhaseSource.steps in
    let T = g.T.PhaseSink.steps in
    let s = c.requires.started in
    let begun = c.in_ok-life.ensures in
    let gone = c.in_ok-gone.gone in
    let left = c.end_life.result in
    let start = c.in_ok-gone.ensures.frame.start ∙ begun.start in
    let Due = IsDueSince g.M.Machine.role g.M.Machine.quiet (chip c.args.beginning.start) in
    let went = subst (λ f. WentOn Due S T c.args.source.now c.go_on.new.source c.args.sink.now c.go_on.new.sink c.args.beginning.bearers gone.node gone.seats.drawer f gone.last gone.node.machine.closed) begun.flash
    (subst (λ n. WentOn Due S T c.args.source.now c.go_on.new.source c.args.sink.now c.go_on.new.sink n gone.node gone.seats.drawer c.in_ok-life.life.node.flash gone.last gone.node.machine.closed) begun.bearers
    (subst (λ f. WentOn (IsDueSince g.M.Machine.role g.M.Machine.quiet (chip f)) S T c.args.source.now c.go_on.new.source c.args.sink.now c.go_on.new.sink c.in_ok-life.life.bearers gone.node gone.seats.drawer c.in_ok-life.life.node.flash gone.last gone.node.machine.closed) begun.start c.in_ok-gone.ensures.went)) in
    let lived = lived_left g.M.Machine.view g.M.Machine.stands g.M.Machine.role g.M.Machine.image chip Due S T c.args.source.now c.go_on.new.source c.args.sink.now c.go_on.new.sink c.args.beginning.bearers c.requires.few gone.node gone.seats.drawer gone.seats.numbers.opened c.args.beginning.flash gone.last left.flash left.refills left.drawn left.closed c.end_life.ensures.left went s.over
    (subst (λ f. IsRecovered (chip f).now s.over) (sym start) s.read) s.runs (ap (λ n. n.opened) (c.in_ok-gone.ensures.numbers ∙ begun.numbers) ∙ s.opened) in
    subst (λ f. LivedOn (Stood g.M.Machine.view (g.M.Machine.stands (found_of (chip f))) chip left.flash) g.M.Machine.role g.M.Machine.image Due S T c.args.source.now c.go_on.new.source c.args.sink.now c.go_on.new.sink c.args.beginning.bearers (chip f) (chip left.flash) c.args.beginning.flash left.flash left.refills left.drawn left.closed left.last) start (subst (λ l. LivedOn (Stood g.M.Machine.view (g.M.Machine.stands (found_of (chip gone.node.start))) chip left.flash) g.M.Machine.role g.M.Machine.image Due S T c.args.source.now c.go_on.new.source c.args.sink.now c.go_on.new.sink c.args.beginning.bearers (chip gone.node.start) (chip left.flash) c.args.beginning.flash left.flash left.refills left.drawn left.closed l) (sym c.end_life.ensures.last) lived)
