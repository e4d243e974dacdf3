-- Octets of a beacon: how many there are, and where the flags and the IV Index stand.
use Rattle.std.proofs.Common.{◌≡◌, ℕ, ◌+◌, ◌*◌, ◌/◌, ◌%◌, Bool, true, false, not, nat_eq, List, [], ◌∷◌, ◌++◌, length, take, drop, get_or, refl, sym, ◌∙◌, ap, arith, append-nil}
use Rattle.std.proofs.lemmas.List.{length-take-le}
use Rattle.std.specs.Cmp.Lexicographic.{pointwise}
use Rattle.std.proofs.lemmas.Bool.Decides.{Decides-eqb}
use Rattle.std.proofs.lemmas.Slice.Eq.{slice_eq-Decides}
use Rattle.std.proofs.lemmas.List.FromFn.{fill_by_all}
use Rattle.cipher_definitions.specs.Octets.{four_octets, octets_of}
use Rattle.cipher_definitions.specs.Cmac.{cmac}
use Rattle.cipher_definitions.specs.Kdf.{beacon_key, k3, network_id}
use Rattle.cipher_definitions.proofs.Lengths.{length-cmac}
use Rattle.layer_definitions.specs.Beacon.{beacon_fields, beacon_text, ReadsBeaconUnder}

-- what `!=` says of octets
pub same_octets : (xs ys : List ℕ) (r : Bool) → r ≡ not (pointwise nat_eq xs ys) → r ≡ false → xs ≡ ys
same_octets xs ys r e f = (slice_eq-Decides Decides-eqb xs ys (pointwise nat_eq xs ys) refl).0 (not_false (pointwise nat_eq xs ys) (sym e ∙ f))
  where
    not_false : (b : Bool) → not b ≡ false → b ≡ true
    not_false true h = refl
    not_false false h = absurd (cc)

-- octets one by one
pub eight_octets : (h : List ℕ) → length h ≡ 8
    → h ≡ get_or h 0 0 ∷ get_or h 1 0 ∷ get_or h 2 0 ∷ get_or h 3 0 ∷ get_or h 4 0 ∷ get_or h 5 0 ∷ get_or h 6 0 ∷ get_or h 7 0 ∷ []
eight_octets h e = fill_by_all (λ i. get_or h i 0) h 8 0 e (λ k below. refl)

pub thirteen_octets : (h : List ℕ) → length h ≡ 13
    → h ≡ get_or h 0 0 ∷ get_or h 1 0 ∷ get_or h 2 0 ∷ get_or h 3 0 ∷ get_or h 4 0 ∷ get_or h 5 0 ∷ get_or h 6 0 ∷ get_or h 7 0 ∷ get_or h 8 0 ∷ get_or h 9 0 ∷ get_or h 10 0 ∷ get_or h 11 0 ∷ get_or h 12 0 ∷ []
thirteen_octets h e = fill_by_all (λ i. get_or h i 0) h 13 0 e (λ k below. refl)

pub all_octets : (h : List ℕ) → length h ≡ 22
    → h ≡ get_or h 0 0 ∷ get_or h 1 0 ∷ get_or h 2 0 ∷ get_or h 3 0 ∷ get_or h 4 0 ∷ get_or h 5 0 ∷ get_or h 6 0 ∷ get_or h 7 0 ∷ get_or h 8 0 ∷ get_or h 9 0 ∷ get_or h 10 0 ∷ get_or h 11 0 ∷ get_or h 12 0 ∷ get_or h 13 0 ∷ get_or h 14 0 ∷ get_or h 15 0 ∷ get_or h 16 0 ∷ get_or h 17 0 ∷ get_or h 18 0 ∷ get_or h 19 0 ∷ get_or h 20 0 ∷ get_or h 21 0 ∷ []
all_octets h e = fill_by_all (λ i. get_or h i 0) h 22 0 e (λ k below. refl)

pub length-network_id : (key : List ℕ) → length (network_id key) ≡ 8
unfolding network_id k3 octets_of
length-network_id key = refl

length-joined : (f iv : ℕ) (id mac : List ℕ) → length id ≡ 8 → length mac ≡ 8 → length (1 ∷ (f ∷ id ++ four_octets iv) ++ mac) ≡ 22
length-joined f iv id mac e m = rw (eight_octets id e, eight_octets mac m) refl

length-mac : (key text : List ℕ) → length (take 8 (cmac key text)) ≡ 8
length-mac key text = length-take-le 8 (cmac key text) (omega (arith, length-cmac key text))

pub length-beacon_text : (key : List ℕ) (f iv : ℕ) → length (beacon_text key f iv) ≡ 22
unfolding beacon_text
length-beacon_text key f iv = length-joined f iv (network_id key) _ (length-network_id key) (length-mac (beacon_key key) (beacon_fields key f iv))

-- the octet at a place of a beacon
at_joined : (f iv : ℕ) (id mac : List ℕ) → length id ≡ 8 →
    (get_or (1 ∷ (f ∷ id ++ four_octets iv) ++ mac) 10 0 ≡ iv / 16777216 % 256)
    × (get_or (1 ∷ (f ∷ id ++ four_octets iv) ++ mac) 11 0 ≡ iv / 65536 % 256)
    × (get_or (1 ∷ (f ∷ id ++ four_octets iv) ++ mac) 12 0 ≡ iv / 256 % 256)
    × (get_or (1 ∷ (f ∷ id ++ four_octets iv) ++ mac) 13 0 ≡ iv % 256)
at_joined f iv id mac e = rw (eight_octets id e) (refl, refl, refl, refl)

pub iv_at : (key octets : List ℕ) (f iv : ℕ) → ReadsBeaconUnder key octets f iv →
    (get_or octets 10 0 ≡ iv / 16777216 % 256) × (get_or octets 11 0 ≡ iv / 65536 % 256) × (get_or octets 12 0 ≡ iv / 256 % 256) × (get_or octets 13 0 ≡ iv % 256)
unfolding beacon_text
iv_at key octets f iv r =
    let places = at_joined f iv (network_id key) (take 8 (cmac (beacon_key key) (beacon_fields key f iv))) (length-network_id key) in
    (ap (λ l. get_or l 10 0) (sym r.text) ∙ places.0, ap (λ l. get_or l 11 0) (sym r.text) ∙ places.1, ap (λ l. get_or l 12 0) (sym r.text) ∙ places.2, ap (λ l. get_or l 13 0) (sym r.text) ∙ places.3)

pub flags_at : (key octets : List ℕ) (f iv : ℕ) → ReadsBeaconUnder key octets f iv → f ≡ get_or octets 1 0
unfolding beacon_text
flags_at key octets f iv r = ap (λ l. get_or l 1 0) r.text

pub iv_of : (key octets : List ℕ) (f iv : ℕ) → ReadsBeaconUnder key octets f iv
    → iv ≡ get_or octets 10 0 * 16777216 + (get_or octets 11 0 * 65536 + (get_or octets 12 0 * 256 + get_or octets 13 0))
iv_of key octets f iv r = let p = iv_at key octets f iv r in omega (arith, r.iv_width, p.0, p.1, p.2, p.3)

pub one_reading : (key octets : List ℕ) (f g iv other : ℕ) → ReadsBeaconUnder key octets f iv → ReadsBeaconUnder key octets g other → (f ≡ g) × (iv ≡ other)
one_reading key octets f g iv other r s =
    (flags_at key octets f iv r ∙ sym (flags_at key octets g other s), iv_of key octets f iv r ∙ sym (iv_of key octets g other s))

-- the fields and the MAC in their places
pub joined : (fields mac : List ℕ) → length fields ≡ 13
    → 1 ∷ (take 13 (fields ++ 0 ∷ 0 ∷ 0 ∷ 0 ∷ 0 ∷ 0 ∷ 0 ∷ 0 ∷ []) ++ (mac ++ drop 8 (drop 13 (fields ++ 0 ∷ 0 ∷ 0 ∷ 0 ∷ 0 ∷ 0 ∷ 0 ∷ 0 ∷ [])))) ≡ 1 ∷ fields ++ mac
joined fields mac e = rw (thirteen_octets fields e, append-nil mac) refl
