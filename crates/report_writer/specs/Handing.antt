-- What a sink tells after one text was handed to it.
use Rattle.std.specs.Prelude.{ℕ, List, ◌++◌}
use Rattle.mesh_base.specs.Outside.{Grows}
use Rattle.report_writer.specs.Writing.{HandsOver, SinkView, WritesFront}

pub record IsHanded (text : List ℕ) (old new : SinkView) : Type 0 where
  pub held : Grows old.held new.held text
  pub pieces : List (List ℕ)
  pub offered : Grows old.pieces new.pieces pieces
  pub handed : HandsOver text pieces

-- a front of it, by a front of the pieces that hand it over
pub record HandedFront (text : List ℕ) (old new : SinkView) : Type 0 where
  pub front : WritesFront old.held new.held text
  pub pieces : List (List ℕ)
  pub offered : Grows old.pieces new.pieces pieces
  pub rest : List (List ℕ)
  pub handed : HandsOver text (pieces ++ rest)
