-- Texts that are written piece by piece.
use Rattle.std.proofs.Common.{◌≡◌, ℕ, zero, suc, ◌-◌, ◌/◌, ◌%◌, ◌^◌, ◌<◌, ◌≤◌, List, [], ◌∷◌, ◌++◌, length, take, drop, refl, sym, ap, append-nil, ◌∙◌, append_assoc, arith}
use Rattle.std.proofs.lemmas.List.{take_all}
use Rattle.std.specs.Prelude.{slice_index}
use Rattle.hex.specs.Hex.{encode_lower, encode_with, lower_digits}
use Rattle.report_definitions.specs.Text.{hex_digits}

-- the high digit, and the others
pub hex_digits_more : (k n : ℕ) → 0 < k → hex_digits k n ≡ slice_index lower_digits (n / 16 ^ (k - 1) % 16) ∷ hex_digits (k - 1) n
unfolding hex_digits
hex_digits_more zero n h = absurd (omega arith)
hex_digits_more (suc k) n h = let e : suc k - 1 ≡ k = omega arith in rw e refl

-- the lowest digits
pub last_digits : (j k n : ℕ) → j ≤ k → drop j (hex_digits k n) ≡ hex_digits (k - j) n
last_digits zero k n h = let e : k - 0 ≡ k = omega arith in rw e refl
last_digits (suc j) k n h =
    let p : 0 < k = omega arith in
    let q : j ≤ k - 1 = omega arith in
    let e : k - suc j ≡ k - 1 - j = omega arith in
    rw (hex_digits_more k n p, e) (last_digits j (k - 1) n q)

pub length_digits : (k n : ℕ) → length (hex_digits k n) ≡ k
unfolding hex_digits
length_digits zero n = refl
length_digits (suc k) n = ap suc (length_digits k n)

-- as many digits as are wanted
pub wanted_digits : (k digits n : ℕ) → digits ≤ k
    → take (k - (k - digits)) (drop (k - digits) (hex_digits k n)) ≡ hex_digits digits n
wanted_digits k digits n h =
    let a : k - digits ≤ k = omega arith in
    let e : k - (k - digits) ≡ digits = omega arith in
    let s : drop (k - digits) (hex_digits k n) ≡ hex_digits digits n = last_digits (k - digits) k n a ∙ ap (λ (m : ℕ). hex_digits m n) e in
    let l : length (hex_digits digits n) ≤ k - (k - digits) = rw (length_digits digits n, e) (omega arith) in
    rw s (take_all (k - (k - digits)) (hex_digits digits n) l)

-- the text of octets in two parts
pub encode_parts : (xs : List ℕ) (k : ℕ) → encode_lower (take k xs) ++ encode_lower (drop k xs) ≡ encode_lower xs
unfolding encode_with
encode_parts xs zero = refl
encode_parts [] (suc k) = refl
encode_parts (x ∷ xs) (suc k) =
    ap (λ (v : List ℕ). slice_index lower_digits (x / 16) ∷ slice_index lower_digits (x % 16) ∷ v) (encode_parts xs k)

-- a part of the octets that are left was put behind a text
pub part_more : (old new rest front back : List ℕ) (k : ℕ) (all : List ℕ) → front ≡ take k rest → back ≡ drop k rest
    → new ≡ old ++ encode_lower front → old ++ encode_lower rest ≡ all → new ++ encode_lower back ≡ all
part_more old new rest front back k all f b e g =
    rw (e, append_assoc, f, b) (ap (λ (v : List ℕ). old ++ v) (encode_parts rest k) ∙ g)

-- no octet is left
pub parts_end : (old rest : List ℕ) (all : List ℕ) → length rest ≤ 0 → old ++ encode_lower rest ≡ all → old ≡ all
unfolding encode_with
parts_end old [] all h g = sym (append-nil old) ∙ g
parts_end old (x ∷ rest) all h g = absurd (omega arith)
