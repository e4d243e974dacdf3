use Rattle.std.proofs.Common.{subst, sym, ◌++◌, map}
use Rattle.std.specs.Option.{option_to_list}
use Rattle.run_definitions.specs.Order.{follow}
use Rattle.node_bearer.specs.Did.{Did}
use Rattle.node_bearer.proofs.Doing.{did_drawn, no_end_drawn, unspent_drawn}
use Rattle.node_bearer.proofs.Moving.{inside_next}
use Rattle.node_bearer.proofs.jobs.drawn_job.Goals as goal

pub returns-in-Ok-clause-did : goal.returns-in-Ok-clause-did
returns-in-Ok-clause-did g c = λ k first tasks rest h.
    let b = c.args.b.now in
    let line = c.drawn_line-line.ensures in
    let next = option_to_list c.drawn_line-line.result.next in
    let o = c.drawn_line-line.result.outcome in
    let spent = unspent_drawn h.before.looks c.args.job.now o c.args.pair line.drawn in
    subst (λ ls. Did k first tasks (map follow next ++ rest) b.pass.own b.pass.seen ls b.number b.drawer) (sym c.in-Ok.ensures.items)
    (did_drawn k first tasks rest b.pass.own b.pass.seen b.lines.items b.number h.before b.drawer c.args.pair c.args.at c.args.j c.args.event.now c.args.job.now o next
    c.requires.there line.shows line.drawn spent (no_end_drawn c.args.job.now o c.args.pair line.drawn) (sym line.next) (inside_next c.drawn_line-line.result.next line.own) h.pair h.did)
