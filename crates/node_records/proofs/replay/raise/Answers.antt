use Rattle.std.proofs.Common.{sym, ◌∙◌}
use Rattle.node_records.proofs.Rows.{keeps_raised, keeps_same}
use Rattle.node_records.proofs.Sources.{apart_by_source, set_stands}
use Rattle.node_records.proofs.replay.raise.Goals as goal

pub returns-then-is_above-clause-order : goal.returns-then-is_above-clause-order
returns-then-is_above-clause-order c =
    rw c.set.ensures.value (set_stands c.args.rows.now c.args.place c.args.name.now c.args.name.now c.requires.order c.requires.within (c.requires.source _))

pub returns-then-is_above-clause-keeps : goal.returns-then-is_above-clause-keeps
returns-then-is_above-clause-keeps c =
    let above = rw c.as_slice.ensures.value at c.is_above.ensures in
    rw c.set.ensures.value
    (keeps_raised c.args.current c.args.rows.now c.args.place c.args.name.now _ (apart_by_source c.args.rows.now c.requires.order) c.requires.within (c.requires.source _)
    (sym above ∙ c.if-is_above.true))

pub returns-else-is_above-clause-keeps : goal.returns-else-is_above-clause-keeps
returns-else-is_above-clause-keeps c =
    let above = rw c.as_slice.ensures.value at c.is_above.ensures in
    keeps_same c.args.current c.args.rows.now c.args.place c.args.name.now _ (apart_by_source c.args.rows.now c.requires.order) c.requires.within (c.requires.source _)
    (sym above ∙ c.if-is_above.false)
