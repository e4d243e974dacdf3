-- Keys as a node holds them.
use Rattle.std.specs.Prelude.{ℕ, List}
use Rattle.mesh_base.specs.declared.keys.AppKeyRow.{AppKeyRow}
use Rattle.mesh_base.specs.declared.keys.NetKeyRow.{NetKeyRow}

-- network keys and application keys by index, the device key, and the labels of virtual addresses in the order held
pub record HeldKeys : Type 0 where
  pub nets : List NetKeyRow
  pub apps : List AppKeyRow
  pub device : List ℕ
  pub labels : List (List ℕ)
