-- Reading a number digit by digit.
use Rattle.std.proofs.Common.{◌≡◌, ℕ, ◌+◌, ◌*◌, ◌^◌, ◌<◌, ◌≤◌, List, length, drop, get_or, Option, Some, None, refl, arith, eq-eqb, add-one, lit<}
use Rattle.std.proofs.Math.Nat.{one-le-pow, pow-succ', pow-le-pow_right}
use Rattle.std.proofs.lemmas.List.{at_drop_more, at_drop_all}
use Rattle.hex.specs.Hex.{hex_digit_value}
use Rattle.script_definitions.specs.Digits.{number_from, number_word}

-- a digit more keeps the bound
pub more_digits : (n d i : ℕ) → n < 16 ^ i → d < 16 → 16 * n + d < 16 ^ (i + 1)
more_digits n d i h k = let e : 16 ^ (i + 1) ≡ 16 * 16 ^ i = rw add-one (pow-succ' 16 i) in omega arith

-- up to eight digits fit into 32 bits
pub digits_fit : (m i k : ℕ) → m < 16 ^ i → i ≤ k → k ≤ 8 → m < 2 ^ 32
digits_fit m i k h j l =
    let a : i ≤ 8 = omega arith in
    let b : 16 ^ i ≤ 16 ^ 8 = pow-le-pow_right (lit< tt) a in
    omega arith

-- a digit was read
pub number_more : (n d : ℕ) (w : List ℕ) (i : ℕ) → i < length w → hex_digit_value (get_or w i 0) ≡ Some d
    → number_from n (drop i w) ≡ number_from (16 * n + d) (drop (i + 1) w)
unfolding number_from
number_more n d w i h e = rw (at_drop_more (number_from n) w i 0 h, e) refl

-- an octet isn't a digit
pub number_fails : (n : ℕ) (w : List ℕ) (i : ℕ) → i < length w → hex_digit_value (get_or w i 0) ≡ None → number_from n (drop i w) ≡ None
unfolding number_from
number_fails n w i h e = rw (at_drop_more (number_from n) w i 0 h, e) refl

-- all was read
pub number_end : (n : ℕ) (w : List ℕ) (i : ℕ) → length w ≤ i → number_from n (drop i w) ≡ Some n
unfolding number_from
number_end n w i h = rw (at_drop_all (number_from n) w i h) refl

-- a word with the digits that are wanted
pub number_is : (k : ℕ) (w : List ℕ) (z : Option ℕ) → length w ≡ k → number_from 0 w ≡ z → number_word k w ≡ z
unfolding number_word
number_is k w z h e = rw (eq-eqb (length w) k h) e

-- a digit of a number of 32 bits is found by a division by less than 2 ^ 32
pub place_fits : (k : ℕ) → k < 8 → 16 ^ k < 2 ^ 32
place_fits k h =
    let a : k ≤ 7 = omega arith in
    let b : 16 ^ k ≤ 16 ^ 7 = pow-le-pow_right (lit< tt) a in
    omega arith

pub place_is_some : (k : ℕ) → 0 < 16 ^ k
place_is_some k = one-le-pow k 16 (lit< tt)
