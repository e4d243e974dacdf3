-- The width of a network key index.
use Rattle.std.specs.Prelude.{◌≤◌}
use Rattle.mesh_base.specs.declared.keys.NetKeyRow.{NetKeyRow}

-- the index of a network key has 12 bits
abbrev pub HasIndexWidth : NetKeyRow → Type 0
HasIndexWidth row = row.index ≤ 0xfff
