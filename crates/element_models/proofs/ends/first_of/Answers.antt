use Rattle.std.proofs.Common.{◌↔◌, List, subst}
use Rattle.std.specs.Prelude.{All}
use Rattle.std.proofs.lemmas.List.{take_all}
use Rattle.element_models.specs.Ends.{AreAsFar}
use Rattle.element_models.specs.declared.servers.Servers.{Servers}
use Rattle.timer_ends.proofs.Firsts.{all_more}
use Rattle.timer_ends.specs.Ends.{IsBefore}
use Rattle.element_models.proofs.ends.first_of.Goals as goal

pub loop-s-preserved : goal.loop-s-preserved
loop-s-preserved c = λ later from time.
    let s = c.s-item.result in
    let Ends : Servers → Type 0 = λ t. AreAsFar c.args.now later t ↔ IsBefore later c.servers_end.result in
    all_more (AreAsFar c.args.now later) c.args.servers.now c.loop-s.s-index s c.loop-s-test.true
    (c.loop-s.invariant later from time) (subst Ends c.s-item.is (c.servers_end.ensures later from time)) (c.sooner-first.ensures.before later)

pub returns : goal.returns
returns c = λ later from time.
    let Ends : List Servers → Type 0 = λ ss. All (AreAsFar c.args.now later) ss ↔ IsBefore later c.loop-s.first in
    subst Ends (take_all c.loop-s.s-index c.args.servers.now c.loop-s-test.false) (c.loop-s.invariant later from time)
