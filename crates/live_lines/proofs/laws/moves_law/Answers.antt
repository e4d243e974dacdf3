use Rattle.live_lines.proofs.Together.{comes}
use Rattle.live_lines.proofs.laws.moves_law.Goals as goal

pub returns : goal.returns
returns c = record { text = comes }
