use Rattle.node_store.proofs.Rooms.{compacted_kept, compacted_moment}
use Rattle.node_store.proofs.room.compact.Goals as goal

pub returns-in-Ok-clause-kept : goal.returns-in-Ok-clause-kept
returns-in-Ok-clause-kept g c found tie =
    compacted_kept (g.F.Flash.chip c.args.flash.now) c.args.journal.now c.args.persist.now found tie c.snapshot-slots.ensures.says (g.F.Flash.chip c.compact.new.flash) c.compact.new.self c.snapshot-slots.result
    c.snapshot-slots.ensures.value (c.in-Ok.ensures.kept tie.journal) (c.in-Ok.ensures.durable tie.journal)

pub returns-in-Ok-clause-any_moment : goal.returns-in-Ok-clause-any_moment
returns-in-Ok-clause-any_moment g c found tie =
    compacted_moment (g.F.Flash.chip c.args.flash.now) c.args.journal.now c.args.persist.now found tie c.snapshot-slots.ensures.says (g.F.Flash.chip c.compact.new.flash) c.snapshot-slots.result
    c.snapshot-slots.ensures.value (c.compact.ensures.any_moment tie.journal)

pub returns-in-Err-clause-any_moment : goal.returns-in-Err-clause-any_moment
returns-in-Err-clause-any_moment g c found tie =
    compacted_moment (g.F.Flash.chip c.args.flash.now) c.args.journal.now c.args.persist.now found tie c.snapshot-slots.ensures.says (g.F.Flash.chip c.compact.new.flash) c.snapshot-slots.result
    c.snapshot-slots.ensures.value (c.compact.ensures.any_moment tie.journal)
