-- The IV Index that a node sends with (Mesh Profile 1.0.1, section 3.10.5).
use Rattle.std.specs.Prelude.{◌-◌, ◌<◌, ℕ, IsTrue, if◌then◌else◌}
use Rattle.mesh_base.specs.declared.iv_state.IvState.{IvState}

-- There is an IV Index to send with: an update in progress leads to an IV Index of at least 1. Each state that the node makes or
-- stores is so, since progress begins by adding one.
abbrev pub HasTransmit : IvState → Type 0
HasTransmit s = IsTrue s.progress → 0 < s.current

-- in Normal Operation the known IV Index, in IV Update in Progress the one before it
unfoldable pub transmit_of : IvState → ℕ
transmit_of s = s.current - (if s.progress then 1 else 0)
