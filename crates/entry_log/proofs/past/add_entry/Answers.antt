use Rattle.std.proofs.Common.{refl, arith}
use Rattle.atomic_table.specs.Table.{keeps}
use Rattle.entry_log.specs.Past.{noted}
use Rattle.entry_log.proofs.past.add_entry.Goals as goal

pub store-requires : goal.store-requires
store-requires g c =
    (c.requires.seat, omega (arith, c.requires.word), λ s h len at fits. (noted g.N.Added.entry g.N.Added.moved c.args.seat.now.me.0, keeps, tt, tt, refl))
