-- A table of addresses beside that of their labels.
use Rattle.std.proofs.Common.{◌≡◌, ◌||◌, ℕ, List, [], ◌∷◌, refl, ap}
use Rattle.std.specs.Prelude.{◌==◌}
use Rattle.std.specs.List.{list_any}
use Rattle.cipher_definitions.specs.Kdf.{virtual_address}
use Rattle.mesh_base.specs.declared.address.Address.{Address}
use Rattle.virtual_labels.specs.Addresses.{addresses_of, has_address}

pub any_address : (labels : List (List ℕ)) (a : Address) → list_any (λ (x : Address). x.0 == a.0) (addresses_of labels) ≡ has_address labels a
any_address [] a = refl
any_address (label ∷ labels) a = ap (λ b. (virtual_address label == a.0) || b) (any_address labels a)
