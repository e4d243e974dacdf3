use Rattle.std.proofs.Common.{ap, sym, ◌∙◌}
use Rattle.std.specs.Prelude.{is_some}
use Rattle.node_records.proofs.Room.{live_entry}
use Rattle.node_records.proofs.Sources.{apart_by_source}
use Rattle.node_records.proofs.replay.has_live.Goals as goal

pub returns : goal.returns
returns c =
    c.is_some.ensures
    ∙ ap (λ o. is_some o) c.entry_among.ensures
    ∙ sym (live_entry c.args.current c.args.rows.now c.args.src (apart_by_source c.args.rows.now c.requires.order))
