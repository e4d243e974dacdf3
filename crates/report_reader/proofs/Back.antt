-- What a field gives back that was written from a value.
use Rattle.std.proofs.Common.{◌≡◌, ℕ, zero, suc, ◌+◌, ◌*◌, ◌/◌, ◌%◌, ◌^◌, ◌<◌, ◌&&◌, nat_le, Bool, true, false, List, [], ◌∷◌, ◌++◌, length, slice_index, Some, None, refl, sym, ap, ◌∙◌, inl, inr, arith, eq-eqb, nat_eq, codes}
use Rattle.std.proofs.Math.Nat.{div-div-eq-div-mul, pow-succ', div-eq_of_lt}
use Rattle.std.proofs.lemmas.Bool.{cases_Bool}
use Rattle.std.proofs.lemmas.Bool.Decides.{nat_tests}
use Rattle.std.proofs.lemmas.Slice.Eq.{bytes_eq-Decides}
use Rattle.std.specs.Str.{bytes_eq}
use Rattle.hex.specs.Hex.{IsBytes, lower_digits, encode_with, encode_lower}
use Rattle.hex.proofs.HexLemmas.{IsDigits-lower_digits, length-encode_with, decode_of-encode_lower, decode_sized-twice}
use Rattle.mesh_base.specs.declared.address.Address.{Address}
use Rattle.mesh_types.specs.declared.answers.KeyName.{KeyName}
use Rattle.mesh_types.specs.declared.answers.KeyName.TheVariants as N
use Rattle.report_definitions.specs.Text.{hex_digits}
use Rattle.script_definitions.specs.Digits.{number_from, number_word}
use Rattle.script_definitions.specs.Forms.{address_word}
use Rattle.report_reader.specs.Forms.{key_name_word, octets_word}
use Rattle.report_reader.specs.Answers.{params_word}
use Rattle.report_reader.specs.Outcomes.{beacon_word}
use Rattle.report_reader.specs.ReportLine.{IsKeyName, IsOctets}

-- Hexadecimal numbers.

pub length-hex_digits : (k n : ℕ) → length (hex_digits k n) ≡ k
unfolding hex_digits
length-hex_digits zero n = refl
length-hex_digits (suc k) n = ap suc (length-hex_digits k n)

-- the digits above a place, with the digit at it
place_more : (k n : ℕ) → 16 * (n / 16 ^ suc k) + n / 16 ^ k % 16 ≡ n / 16 ^ k
place_more k n =
    let p : 16 ^ suc k ≡ 16 ^ k * 16 = omega (arith, pow-succ' 16 k) in
    let e : n / 16 ^ suc k ≡ n / 16 ^ k / 16 = ap (λ (m : ℕ). n / m) p ∙ sym (div-div-eq-div-mul n (16 ^ k) 16) in
    omega (arith, e)

number_rest : (k n : ℕ) → number_from (n / 16 ^ k) (hex_digits k n) ≡ Some n
unfolding number_from hex_digits
number_rest zero n = ap Some (omega arith)
number_rest (suc k) n =
    let low : n / 16 ^ k % 16 < 16 = omega arith in
    rw (IsDigits-lower_digits (n / 16 ^ k % 16) low, place_more k n) (number_rest k n)

pub number_back : (k n : ℕ) → n < 16 ^ k → number_word k (hex_digits k n) ≡ Some n
unfolding number_word
number_back k n h =
    let none : n / 16 ^ k ≡ 0 = div-eq_of_lt h in
    rw (eq-eqb (length (hex_digits k n)) k (length-hex_digits k n)) (rw none at (number_rest k n))

pub address_back : (a : Address) → a.0 < 2 ^ 16 → address_word (hex_digits 4 a.0) ≡ Some a
unfolding address_word
address_back a h = rw (number_back 4 a.0 h) refl

-- a word that is no such number isn't the digits of one
pub not_number : (k n : ℕ) (v : List ℕ) → n < 16 ^ k → number_word k v ≡ None → bytes_eq (hex_digits k n) v ≡ false
not_number k n v h e =
    elim (cases_Bool (bytes_eq (hex_digits k n) v)) [
      | inl t ↦
          let same : hex_digits k n ≡ v = (bytes_eq-Decides (hex_digits k n) v).0 t in
          let no : Some n ≡ None = sym (number_back k n h) ∙ ap (number_word k) same ∙ e in
          cc
      | inr f ↦ f
    ]

-- Octets.

pub octets_back : (most : ℕ) (xs : List ℕ) → IsOctets most xs → octets_word most (encode_lower xs) ≡ Some xs
unfolding octets_word
octets_back most xs h =
    let long : length (encode_lower xs) ≡ 2 * length xs = length-encode_with lower_digits xs in
    let fits : nat_le (length (encode_lower xs)) (2 * most) ≡ true = let short = h.0 in grind (arith, nat_tests) in
    rw (fits, decode_of-encode_lower xs h.1) refl

pub beacon_back : (xs : List ℕ) → length xs ≡ 22 → IsBytes xs → beacon_word (encode_lower xs) ≡ Some xs
unfolding beacon_word
beacon_back xs n h =
    let long : length (encode_lower xs) ≡ 2 * length xs = length-encode_with lower_digits xs in
    rw (decode_sized-twice (encode_lower xs) 22 (omega (arith, long, n)), decode_of-encode_lower xs h) refl

-- two octets or more aren't one
longer_than_one : (a b c : ℕ) (r : List ℕ) → bytes_eq (a ∷ b ∷ r) (c ∷ []) ≡ false
longer_than_one a b c r =
    elim (nat_eq a c) as (λ (t : Bool). (t && false) ≡ false) [
      | true ↦ refl
      | false ↦ refl
    ]

pub params_back : (x : ℕ) (xs : List ℕ) → IsOctets 256 (x ∷ xs) → params_word (encode_lower (x ∷ xs)) ≡ Some (x ∷ xs)
unfolding params_word encode_with
params_back x xs h = rw (longer_than_one (slice_index lower_digits (x / 16)) (slice_index lower_digits (x % 16)) 45 (encode_lower xs)) (octets_back 256 (x ∷ xs) h)

-- Keys by their names.

abbrev pub key_field : KeyName → List ℕ
key_field N.Dev = codes "dev"
key_field (N.App index) = codes "app:" ++ hex_digits 3 index

pub key_back : (key : KeyName) → IsKeyName key → key_name_word (key_field key) ≡ Some key
unfolding key_name_word
key_back N.Dev h = refl
key_back (N.App index) h = rw (number_back 3 index h) refl
