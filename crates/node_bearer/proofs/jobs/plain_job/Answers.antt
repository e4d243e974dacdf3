use Rattle.std.proofs.Common.{◌≡◌, [], false, subst, sym}
use Rattle.std.proofs.lemmas.List.Elements.{All-nil}
use Rattle.run_definitions.specs.Order.{is_outside}
use Rattle.node_bearer.specs.Did.{Did}
use Rattle.node_bearer.proofs.Doing.{did_written, no_end_plain, unspent_plain}
use Rattle.node_bearer.proofs.jobs.plain_job.Goals as goal

pub returns-in-Ok-clause-did : goal.returns-in-Ok-clause-did
returns-in-Ok-clause-did g c = λ k first tasks rest h.
    let b = c.args.b.now in
    let line = c.plain_line-outcome.ensures in
    let none = no_end_plain c.args.event.now c.args.job.now c.plain_line-outcome.result c.requires.plain line.shows in
    let spent = unspent_plain b.drawer.looks c.args.event.now c.args.job.now c.plain_line-outcome.result c.requires.plain line.shows in
    subst (λ ls. Did k first tasks rest b.pass.own b.pass.seen ls b.number b.drawer) (sym c.in-Ok.ensures.items)
    (did_written k first tasks rest b.pass.own b.pass.seen b.lines.items b.number b.drawer c.args.at c.args.j c.args.event.now c.args.job.now c.plain_line-outcome.result []
    c.requires.there line.shows line.drawn spent none line.next (All-nil (λ e. is_outside e ≡ false)) h)
