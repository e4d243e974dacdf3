-- One network key's row after an op that changes rows in their places.
use Rattle.std.specs.Prelude.{ℕ, ◌==◌, if◌then◌else◌, List, Some}
use Rattle.mesh_base.specs.declared.keys.NetKeyRow.{NetKeyRow}
use Rattle.store_definitions.specs.Config.{finished_net}

-- op 2 update, 3 phase 2, 4 finish
abbrev pub net_after : ℕ → ℕ → List ℕ → NetKeyRow → NetKeyRow
net_after op index key r =
    if r.index == index then
    (if op == 2 then record r { phase = 1; next = Some key } else if op == 3 then record r { phase = 2 }
    else finished_net r)
    else r
