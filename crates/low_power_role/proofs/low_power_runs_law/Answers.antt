use Rattle.low_power_role.proofs.Safe.{is_safe}
use Rattle.low_power_role.specs.Role.{low_power_role}
use Rattle.run_safety.proofs.Enough as enough
use Rattle.low_power_role.proofs.low_power_runs_law.Goals as goal

pub returns : goal.returns
returns c =
    record {
      safe = is_safe;
      no_reuse = enough.no_reuse low_power_role is_safe;
      at_most_once = enough.at_most_once low_power_role is_safe;
    }
