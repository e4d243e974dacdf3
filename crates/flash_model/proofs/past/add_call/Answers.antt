use Rattle.std.proofs.Common.{refl, arith}
use Rattle.atomic_table.specs.Table.{keeps}
use Rattle.flash_model.specs.Past.{noted}
use Rattle.flash_model.proofs.past.add_call.Goals as goal

pub store-requires : goal.store-requires
store-requires g c =
    (c.requires.seat, omega (arith, c.requires.word), λ s h len at fits. (noted c.args.call g.N.Found.content c.args.seat.now.me.0, keeps, tt, tt, refl))
