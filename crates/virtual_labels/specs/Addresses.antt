-- The virtual addresses of labels (Mesh Profile 1.0.1, section 3.4.2.3).
use Rattle.std.specs.Prelude.{ℕ, ◌==◌, Bool, List, map}
use Rattle.std.specs.List.{list_any}
use Rattle.cipher_definitions.specs.Kdf.{virtual_address}
use Rattle.mesh_base.specs.declared.address.Address.{Address}

-- the address of each label
abbrev pub addresses_of : List (List ℕ) → List Address
addresses_of labels = map (λ label. record { 0 = virtual_address label }) labels

-- whether an address is that of one of the labels
abbrev pub has_address : List (List ℕ) → Address → Bool
has_address labels a = list_any (λ label. virtual_address label == a.0) labels
