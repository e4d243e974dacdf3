use Rattle.mesh_base.proofs.pieces.PieceLog.note.Given as goal

abbrev pub ghosts-add_piece : goal.ghosts-add_piece
ghosts-add_piece a = record { octets = a.piece.now }
