-- The step's promise is its own: the view is the one before with the piece behind it.
use Rattle.std.proofs.Common.{refl, arith}
use Rattle.atomic_table.specs.Table.{keeps}
use Rattle.mesh_base.specs.Pieces.{with_piece}
use Rattle.mesh_base.proofs.pieces.add_piece.Goals as goal

pub store-requires : goal.store-requires
store-requires g c =
    (c.requires.seat, omega (arith, c.requires.word), λ s h len at fits. (with_piece g.N.Piece.octets c.args.seat.now.me.0, keeps, tt, tt, refl))
