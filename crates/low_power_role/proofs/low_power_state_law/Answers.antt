use Rattle.low_power_role.proofs.Life.{goes_on}
use Rattle.low_power_role.proofs.low_power_state_law.Goals as goal

pub returns : goal.returns
returns c = record { goes_on = goes_on }
