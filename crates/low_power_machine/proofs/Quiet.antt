-- A Low Power node has no timers: every tick event is quiet.
use Rattle.std.proofs.Common.{ℕ, refl}
use Rattle.event_definitions.specs.History.{Past}
use Rattle.low_power_role.specs.Role.{jobs_of, low_power_role, stores}
use Rattle.machine_contract.specs.Idle.{IsQuietTick}

pub quiet_tick : (past : Past) (ticks : ℕ) → IsQuietTick low_power_role past ticks
unfolding stores jobs_of
quiet_tick past ticks = λ insight sees. (refl, refl)
