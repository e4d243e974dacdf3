use Rattle.life_laws.proofs.Drawing.{is_drawn, is_spent}
use Rattle.life_laws.proofs.pairs.drawn_law.Goals as goal

pub returns-clause-drawn : goal.returns-clause-drawn
returns-clause-drawn c = λ over next l moves d h from below once. is_drawn over next l moves d h from below once

pub returns-clause-spent : goal.returns-clause-spent
returns-clause-spent c = λ over next l moves d h f ends. is_spent over next l moves d h f ends
