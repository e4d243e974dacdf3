use Rattle.seq_word.proofs.Moves.{at_one_place}
use Rattle.seq_word.proofs.laws.drawn_once.Goals as goal

pub returns : goal.returns
returns c = λ opened s h x by by' place place' v w at at' here there. at_one_place opened h.next h.mark h.keeper s.views h.stands x by by' place place' v w at at' here there
