use Rattle.handle_laws.proofs.Counting.{writes_few, writes_lean}
use Rattle.handle_laws.proofs.Cutting.{writes_cut, writes_on_chip}
use Rattle.handle_laws.proofs.Making.{writes_make}
use Rattle.handle_laws.proofs.writes_law.Goals as goal

pub returns : goal.returns
returns c = record { made = writes_make _ _; on_chip = writes_on_chip _ _; fronts = writes_cut _ _; few = writes_few _ _; lean = writes_lean _ _ }
