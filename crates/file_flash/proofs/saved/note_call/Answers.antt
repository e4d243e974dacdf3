use Rattle.std.proofs.Common.{refl, arith}
use Rattle.atomic_table.specs.Table.{keeps}
use Rattle.file_flash.specs.Saved.{call_noted}
use Rattle.file_flash.proofs.saved.note_call.Goals as goal

pub store-requires : goal.store-requires
store-requires g c = (
  c.requires.seat,
  omega (arith, c.requires.word),
  λ s h len at fits. (call_noted g.N.Beginning.began g.N.Beginning.old g.N.Beginning.new c.args.seat.now.me.0, keeps, tt, tt, refl),
)
