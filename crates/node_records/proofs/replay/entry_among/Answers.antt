use Rattle.std.proofs.Common.{ap, sym, ◌∙◌}
use Rattle.store_definitions.specs.Entries.{unexpired}
use Rattle.node_records.proofs.Rows.{none_from, row_first}
use Rattle.node_records.proofs.replay.entry_among.Goals as goal

pub returns-in-Some : goal.returns-in-Some
returns-in-Some c =
    let some = c.in-Some.ensures.some in
    c.live_pair.ensures ∙ ap (unexpired c.args.current) (sym (row_first c.args.rows.now c.in-Some.place c.args.src _ some.0 c.in-Some.ensures.first (some.1 _)))

pub returns-in-None : goal.returns-in-None
returns-in-None c = ap (unexpired c.args.current) (sym (none_from c.args.rows.now c.args.src c.in-None.ensures.none))
