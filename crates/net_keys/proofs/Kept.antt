-- Keys beside what was derived of them.
use Rattle.std.proofs.Common.{◌≡◌, ℕ, zero, suc, ◌+◌, ◌<◌, List, [], ◌∷◌, ◌++◌, length, take, get_or, Option, Some, None, refl, sym, ap, ◌∙◌, arith, append-nil}
use Rattle.std.proofs.lemmas.List.{take_more, length-map}
use Rattle.std.proofs.lemmas.Grind.{flat_map-append}
use Rattle.mesh_base.specs.declared.fields.Heard.{Heard}
use Rattle.mesh_base.specs.declared.fields.NetMaterial.{NetMaterial}
use Rattle.mesh_base.specs.declared.keys.NetKeyRow.{NetKeyRow}
use Rattle.layer_definitions.specs.KeyRefresh.{heard_key, heard_keys, keys_of, master_material}
use Rattle.net_keys.specs.Held.{octets_of, AreMaterials}

-- the octets of one row more
pub octets_more : (rows : List NetKeyRow) (i : ℕ) (d : NetKeyRow) → i < length rows
    → octets_of (take i rows) ++ keys_of (λ fresh key. key) (get_or rows i d).key (get_or rows i d).next ≡ octets_of (take (i + 1) rows)
octets_more rows i d l =
    let keys = λ (r : NetKeyRow). keys_of (λ fresh (key : List ℕ). key) r.key r.next in
    rw (take_more rows i d l, flat_map-append keys (take i rows) (get_or rows i d ∷ []), append-nil (keys (get_or rows i d))) refl

more_materials : (r : NetKeyRow) (next : Option (List ℕ)) (octets : List (List ℕ)) (heard : List Heard) → AreMaterials octets heard
    → AreMaterials (keys_of (λ fresh key. key) r.key next ++ octets) (keys_of (heard_key r.index) r.key next ++ heard)
more_materials r None octets heard e = ap (λ (ms : List NetMaterial). master_material r.key ∷ ms) e
more_materials r (Some k) octets heard e = ap (λ (ms : List NetMaterial). master_material r.key ∷ master_material k ∷ ms) e

-- what is heard under the keys of rows has their material
pub are_materials : (rows : List NetKeyRow) → AreMaterials (octets_of rows) (heard_keys rows)
are_materials [] = refl
are_materials (r ∷ rows) = more_materials r r.next (octets_of rows) (heard_keys rows) (are_materials rows)

pub as_many : (octets : List (List ℕ)) (heard : List Heard) → AreMaterials octets heard → length heard ≡ length octets
as_many octets heard e = sym (length-map heard (λ (h : Heard). h.material)) ∙ ap (λ (ms : List NetMaterial). length ms) e ∙ length-map octets master_material

-- the material at the place of a key
pub material_at : (octets : List (List ℕ)) (heard : List Heard) (i : ℕ) (d : Heard) (e : List ℕ) → AreMaterials octets heard → i < length octets
    → (get_or heard i d).material ≡ master_material (get_or octets i e)
material_at [] heard i d e same l = absurd (omega arith)
material_at (x ∷ xs) [] i d e same l = absurd (let n = as_many (x ∷ xs) [] same in omega arith)
material_at (x ∷ xs) (h ∷ hs) zero d e same l = cc
material_at (x ∷ xs) (h ∷ hs) (suc i) d e same l = material_at xs hs i d e (cc) (omega arith)
