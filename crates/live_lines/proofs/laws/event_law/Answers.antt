use Rattle.live_lines.proofs.Own.{own}
use Rattle.live_lines.proofs.laws.event_law.Goals as goal

pub returns : goal.returns
returns c = record { own = own }
