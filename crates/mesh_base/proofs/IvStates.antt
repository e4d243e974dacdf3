-- The IV Index that a node sends with is at most the known one.
use Rattle.std.proofs.Common.{◌≤◌, arith}
use Rattle.mesh_base.specs.IvState.{transmit_of}
use Rattle.mesh_base.specs.declared.iv_state.IvState.{IvState}

pub transmit_known : (s : IvState) → transmit_of s ≤ s.current
unfolding transmit_of
transmit_known s = omega arith
