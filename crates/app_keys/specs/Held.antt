-- What an application key is sent with (Mesh Profile 1.0.1, section 3.10.4).
use Rattle.std.specs.Prelude.{ℕ, ◌==◌, ◌&&◌, Bool, is_some}
use Rattle.mesh_base.specs.declared.keys.AppKeyRow.{AppKeyRow}
use Rattle.mesh_base.specs.declared.keys.NetKeyRow.{NetKeyRow}
use Rattle.mesh_base.specs.declared.keys.UpperKey.{UpperKey}
use Rattle.kept_keys.specs.declared.upper.BoundSchedule.{BoundSchedule}

-- the new value, where there is one, and the network key is in phase 2
abbrev pub sends_new : AppKeyRow → NetKeyRow → Bool
sends_new r net = (net.phase == 2) && is_some r.next

-- a value, with the index of the network key that it is bound to in front
abbrev pub pair_of : BoundSchedule → ℕ × UpperKey
pair_of b = (b.net, b.key)
