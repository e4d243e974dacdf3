-- Under which key of a row is sent (Mesh Profile 1.0.1, section 3.10.4).
use Rattle.std.specs.Prelude.{◌≡◌, ℕ, ◌==◌, ◌&&◌, Bool, is_some, List, map}
use Rattle.std.specs.List.{flat_map}
use Rattle.layer_definitions.specs.KeyRefresh.{keys_of, master_material}
use Rattle.mesh_base.specs.declared.fields.Heard.{Heard}
use Rattle.mesh_base.specs.declared.keys.NetKeyRow.{NetKeyRow}

-- the new key, where there is one, in phase 2
abbrev pub sends_new : NetKeyRow → Bool
sends_new r = (r.phase == 2) && is_some r.next

-- the octets of the keys of rows, the old key of a row before the new
abbrev pub octets_of : List NetKeyRow → List (List ℕ)
octets_of rows = flat_map (λ r. keys_of (λ fresh key. key) r.key r.next) rows

-- what is heard has the master credentials of these keys, in their order
abbrev pub AreMaterials : List (List ℕ) → List Heard → Type 0
AreMaterials octets heard = map (λ (h : Heard). h.material) heard ≡ map master_material octets
