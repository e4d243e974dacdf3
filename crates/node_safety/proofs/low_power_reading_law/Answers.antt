use Rattle.low_power_role.specs.Role.{low_power_role}
use Rattle.node_safety.proofs.LowPower.{sees_once}
use Rattle.node_safety.proofs.Once.{life_once}
use Rattle.node_safety.proofs.low_power_reading_law.Goals as goal

pub returns-clause-sees : goal.returns-clause-sees
returns-clause-sees c = sees_once

pub returns-clause-told : goal.returns-clause-told
returns-clause-told c = life_once low_power_role sees_once
