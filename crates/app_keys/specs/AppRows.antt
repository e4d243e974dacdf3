-- The application keys of a node with the network keys that they are bound to (Mesh Profile 1.0.1, section 3.8.6.2).
use Rattle.std.specs.Prelude.{◌≡◌, ◌<◌, ◌^◌, ⊤, List}
use Rattle.cipher_definitions.specs.Kdf.{aid}
use Rattle.mesh_base.specs.declared.keys.AppKeyRow.{AppKeyRow}
use Rattle.mesh_base.specs.declared.keys.NetKeyRow.{NetKeyRow}
use Rattle.mesh_base.specs.declared.keys.UpperKey.{UpperKey}
use Rattle.mesh_base.specs.declared.keys.UpperKey.TheVariants.{Device, App}

-- application keys by index, and network keys
pub record AppRows : Type 0 where
  pub apps : List AppKeyRow
  pub nets : List NetKeyRow

-- The AID of an application key has 6 bits (3.8.6.2).
abbrev pub HasAidWidth : UpperKey → Type 0
HasAidWidth (Device key) = ⊤
HasAidWidth (App index id key) = id < 2 ^ 6

-- An application key has the AID that is derived of it (3.8.6.2).
abbrev pub HasOwnAid : UpperKey → Type 0
HasOwnAid (Device key) = ⊤
HasOwnAid (App index id key) = id ≡ aid key
