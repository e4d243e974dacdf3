use Rattle.node_store.proofs.Holding.{exactly_store, held_unchanged, store_alike, store_images, store_meaning, store_stays}
use Rattle.node_store.proofs.laws.tie_law.Goals as goal

pub returns-clause-stays : goal.returns-clause-stays
returns-clause-stays g c old new = store_stays (g.F.Flash.chip old) (g.F.Flash.chip new)

pub returns-clause-images : goal.returns-clause-images
returns-clause-images g c flash = store_images (g.F.Flash.chip flash)

pub returns-clause-unchanged : goal.returns-clause-unchanged
returns-clause-unchanged g c flash store records tie = held_unchanged (g.F.Flash.chip flash) store records tie (g.met.F.Flash.only_now flash)

pub returns-clause-meaning : goal.returns-clause-meaning
returns-clause-meaning g c flash = store_meaning (g.F.Flash.chip flash)

pub returns-clause-alike : goal.returns-clause-alike
returns-clause-alike g c flash = store_alike (g.F.Flash.chip flash)

pub returns-clause-exactly : goal.returns-clause-exactly
returns-clause-exactly g c flash = exactly_store (g.F.Flash.chip flash)
