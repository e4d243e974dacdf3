-- Tests on names, addresses and truth values.
use Rattle.std.specs.Prelude.{not, Bool, if◌then◌else◌}
pub use Rattle.mesh_base.specs.Address.{is_unicast}
pub use Rattle.mesh_base.specs.Pairs.{is_name}

-- whether both are true or both false
abbrev pub is_same : Bool → Bool → Bool
is_same a b = if a then b else not b
