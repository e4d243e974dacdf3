use Rattle.std.proofs.Common.{rules, ◌≡◌}
use Rattle.live_lines.specs.Saying.{line_says}
use Rattle.live_lines.specs.declared.saying.Saying.TheVariants as S
use Rattle.script_definitions.specs.Ranges.{IsLine}
use Rattle.script_definitions.specs.declared.kind.Grammar.TheVariants as G
use Rattle.called_node.specs.Called.{IsTaken}
use Rattle.called_node.proofs.Lines.{given_is, said_is}
use Rattle.called_node.proofs.called.CalledNode+M+NotedFlash.phase_of.Goals as goal

pub returns-in-Ok-Nothing-clause-cause : goal.returns-in-Ok-Nothing-clause-cause
returns-in-Ok-Nothing-clause-cause g c =
    let says : S.Nothing ≡ line_says 1 c.in-Some.elements c.args.text.now = search rules in
    let taken : IsTaken c.args.self.now = search rules in
    said_is c.args.text.now c.args.self.now c.in-Some.elements S.Nothing c.in-Some.ensures.value says taken

pub returns-in-Ok-Wrong-clause-cause : goal.returns-in-Ok-Wrong-clause-cause
returns-in-Ok-Wrong-clause-cause g c =
    let says : S.Wrong c.in-Ok-Wrong.rule ≡ line_says 1 c.in-Some.elements c.args.text.now = search rules in
    let taken : IsTaken c.args.self.now = search rules in
    said_is c.args.text.now c.args.self.now c.in-Some.elements (S.Wrong c.in-Ok-Wrong.rule) c.in-Some.ensures.value says taken

pub returns-in-Ok-clause-given : goal.returns-in-Ok-clause-given
returns-in-Ok-clause-given g c =
    let says : S.Happens c.in-Ok-Happens.line ≡ line_says 1 c.in-Some.elements c.args.text.now = search rules in
    let taken : IsTaken c.args.self.now = search rules in
    let ranges : IsLine G.Node c.in-Some.elements c.in-Ok-Happens.line = search rules in
    given_is c.args.text.now c.args.self.now c.in-Some.elements c.in-Ok-Happens.line c.in-Ok.lists.items c.in-Some.ensures.value says taken c.in-Ok.ensures.value
    (c.in-Ok.ensures.fits c.in-Some.elements ranges)
