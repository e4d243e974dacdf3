-- Rows of keys by their index (Mesh Profile 1.0.1, sections 3.8.6.2 and 3.8.6.3).
use Rattle.std.specs.Prelude.{ℕ, ◌==◌, List, Option}
use Rattle.std.specs.List.{find}
use Rattle.mesh_base.specs.declared.keys.AppKeyRow.{AppKeyRow}
use Rattle.mesh_base.specs.declared.keys.NetKeyRow.{NetKeyRow}

-- the row of a network key index
abbrev pub net_row : List NetKeyRow → ℕ → Option NetKeyRow
net_row rows index = find (λ r. r.index == index) rows

-- the row of an application key index
abbrev pub app_row : List AppKeyRow → ℕ → Option AppKeyRow
app_row rows index = find (λ r. r.index == index) rows
