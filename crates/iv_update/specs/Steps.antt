-- What a step of the IV Index leaves.
use Rattle.std.specs.Prelude.{◌+◌, ◌≤◌}
use Rattle.mesh_base.specs.IvState.{HasTransmit, transmit_of}
use Rattle.mesh_base.specs.declared.iv_state.IvState.{IvState}
use Rattle.mesh_base.specs.declared.iv_state.IvStep.{IvStep}
use Rattle.mesh_base.specs.declared.iv_state.IvStep.TheVariants.{Ignore, Begin, Finish, Recover, Wait}

-- the state after a step of this state
abbrev pub state_after : IvState → IvStep → IvState
state_after s (Ignore rule) = s
state_after s (Begin next) = next
state_after s (Finish next) = next
state_after s (Recover next) = next
state_after s Wait = s

-- A state may follow another one: the IV Index to send with doesn't fall, and the known IV Index doesn't fall and
-- moves up by at most 42.
pub record IsLater (before after : IvState) : Type 0 where
  pub has_transmit : HasTransmit after
  pub transmit : transmit_of before ≤ transmit_of after
  pub current : before.current ≤ after.current
  pub within : after.current ≤ before.current + 42
