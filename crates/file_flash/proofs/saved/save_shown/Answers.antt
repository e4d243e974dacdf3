use Rattle.std.proofs.Common.{refl, arith, length}
use Rattle.atomic_table.specs.Table.{keeps}
use Rattle.file_flash.proofs.saved.save_shown.Goals as goal

pub store-requires : goal.store-requires
store-requires g c =
    let saved = c.args.seat.now.me.0 in (
      c.requires.seat,
      omega (arith, c.requires.word),
      λ s h len at fits. (record saved { octets = g.N.Shown.octets; moment = length saved.calls; called = g.N.Shown.called; programmed = g.N.Shown.programmed }, keeps, tt, tt, refl),
    )
