use Rattle.std.proofs.Common.{◌≡◌, ◌∙◌, ◌+◌, ◌≤◌, ◌^◌, min, ap, arith}
use Rattle.mesh_hearing.specs.Tables.{TablesView}
use Rattle.next_due.proofs.Passed.{planned}
use Rattle.next_due.proofs.waiting.wait.Goals as goal

pub returns-clause-planned : goal.returns-clause-planned
returns-clause-planned c = λ past s.
    let old = c.args.tables.now in
    let from : c.ticks.result ≡ old.hearing.ticks = c.ticks.ensures.value ∙ ap (λ (v : TablesView). v.ticks) c.hearing.ensures.value in
    let most : old.hearing.ticks ≤ 2 ^ 48 = omega (arith, from, c.ticks.ensures.most) in
    let is : c.later-now.result ≡ min (2 ^ 48) (old.hearing.ticks + c.args.ticks) =
    c.later-now.ensures.value ∙ ap (λ n. min (2 ^ 48) (n + c.args.ticks)) from in
    planned past c.args.p.now old c.wait.new.self c.args.ticks c.later-now.result s c.if-p.false most is
    (c.due.ensures.quiet past s.meaning s.tables c.args.ticks (omega (arith, c.if-due-ticks.false))) c.wait.ensures.tables

pub returns-clause-quiet : goal.returns-clause-quiet
returns-clause-quiet c = λ past meaning tables. c.due.ensures.quiet past meaning tables c.args.ticks (omega (arith, c.if-due-ticks.false))

pub returns-clause-fit : goal.returns-clause-fit
returns-clause-fit c = c.wait.ensures.fit c.args.p.now
