use Rattle.store_world.proofs.Steps.{accept, entry_more}
use Rattle.store_world.proofs.accept_law.Goals as goal

pub returns : goal.returns
returns c = record { accept = accept; entry = entry_more }
