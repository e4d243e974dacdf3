use Rattle.node_store.proofs.Holding.{exactly_store, held_unchanged}
use Rattle.node_store.proofs.mounting.migrated.Goals as goal

pub returns-then-version-ne-OLD_FORMAT-clause-kept : goal.returns-then-version-ne-OLD_FORMAT-clause-kept
returns-then-version-ne-OLD_FORMAT-clause-kept g c found tie = exactly_store (g.F.Flash.chip c.args.flash.now) (record { journal = c.args.journal; persist = c.args.persist.now }) found tie

pub returns-then-version-ne-OLD_FORMAT-clause-any_moment : goal.returns-then-version-ne-OLD_FORMAT-clause-any_moment
returns-then-version-ne-OLD_FORMAT-clause-any_moment g c found tie =
    let old = g.F.Flash.chip c.args.flash.now in
    held_unchanged old (record { journal = c.args.journal; persist = c.args.persist.now }) found
    (exactly_store old (record { journal = c.args.journal; persist = c.args.persist.now }) found tie) (g.met.F.Flash.only_now c.args.flash.now)
