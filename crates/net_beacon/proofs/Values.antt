-- Keys as they are kept, and where a beacon tells its key.
use Rattle.std.proofs.Common.{◌≡◌, ℕ, ◌+◌, ◌<◌, Bool, true, false, cond, List, [], ◌∷◌, ◌++◌, length, take, drop, get_or, Option, Some, None, refl, sym, ap, ◌∙◌}
use Rattle.std.specs.Prelude.{is_some}
use Rattle.std.specs.List.{find}
use Rattle.std.proofs.lemmas.List.{map-append, take_more}
use Rattle.std.proofs.lemmas.Grind.{flat_map-append}
use Rattle.std.proofs.lemmas.Slice.Eq.{bytes_eq-Decides}
use Rattle.cipher_definitions.specs.Octets.{four_octets}
use Rattle.cipher_definitions.specs.Cmac.{cmac}
use Rattle.cipher_definitions.specs.Kdf.{beacon_key, network_id}
use Rattle.layer_definitions.specs.Beacon.{BeaconSource, beacon_fields, beacon_text, ReadsBeaconUnder}
use Rattle.layer_definitions.specs.KeyRefresh.{beacon_keys, keys_of}
use Rattle.mesh_base.specs.declared.keys.NetKeyRow.{NetKeyRow}
use Rattle.net_beacon.specs.Kept.{is_value, values_of}
use Rattle.net_beacon.proofs.Texts.{eight_octets, length-network_id}

source : ℕ → Bool → List ℕ → BeaconSource
source index fresh key = record { index = index; fresh = fresh; key = key }

-- the keys of one row more
pub values_more : (rows : List NetKeyRow) (i : ℕ) (d : NetKeyRow) → i < length rows
    → values_of (take i rows) ++ values_of (get_or rows i d ∷ []) ≡ values_of (take (i + 1) rows)
unfolding source
values_more rows i d l =
    let keys = λ (r : NetKeyRow). keys_of (source r.index) r.key r.next in
    rw (take_more rows i d l, flat_map-append keys (take i rows) (get_or rows i d ∷ []))
    (sym (map-append (λ (b : BeaconSource). Some b.key) (beacon_keys (take i rows)) (beacon_keys (get_or rows i d ∷ []))))

-- What is found of a key.

found_test : (p : Option (List ℕ) → Bool) (xs : List (Option (List ℕ))) (o : Option (List ℕ)) → find p xs ≡ Some o → p o ≡ true
found_test p [] o e = absurd (cc)
found_test p (x ∷ xs) o e = either (λ f. found_test p xs o f) (p x) refl e
  where
    either : (find p xs ≡ Some o → p o ≡ true) → (t : Bool) → p x ≡ t → cond t (Some x) (find p xs) ≡ Some o → p o ≡ true
    either next true t f = let same : x ≡ o = cc in ap p (sym same) ∙ t
    either next false t f = next f

pub found_value : (key : List ℕ) (xs : List (Option (List ℕ))) (kept : List ℕ) → find (is_value key) xs ≡ Some (Some kept) → kept ≡ key
found_value key xs kept e = (bytes_eq-Decides kept key).0 (found_test (is_value key) xs (Some kept) e)

-- what is found is a key
pub found_some : (key : List ℕ) (xs : List (Option (List ℕ))) (place : Option (List ℕ)) → find (is_value key) xs ≡ Some place → is_some place ≡ true
found_some key xs None e = let test = found_test (is_value key) xs None e in absurd (cc)
found_some key xs (Some kept) e = refl

-- The Network ID stands behind type and flags.

id_stands : (f iv : ℕ) (id mac : List ℕ) → length id ≡ 8 → take 8 (drop 2 (1 ∷ (f ∷ id ++ four_octets iv) ++ mac)) ≡ id
id_stands f iv id mac e = rw (eight_octets id e) refl

pub id_at : (key octets : List ℕ) (f iv : ℕ) → ReadsBeaconUnder key octets f iv → take 8 (drop 2 octets) ≡ network_id key
unfolding beacon_text
id_at key octets f iv r =
    let mac = take 8 (cmac (beacon_key key) (beacon_fields key f iv)) in
    ap (λ l. take 8 (drop 2 l)) (sym r.text) ∙ id_stands f iv (network_id key) mac (length-network_id key)
