-- Reading a decimal number digit by digit.
use Rattle.std.proofs.Common.{◌≡◌, ℕ, ◌+◌, ◌*◌, ◌^◌, ◌<◌, ◌≤◌, List, length, drop, get_or, Option, Some, None, IfSome, refl, arith, add-one, lit<}
use Rattle.std.proofs.Math.Nat.{pow-succ', pow-le-pow_right}
use Rattle.std.proofs.lemmas.List.{at_drop_more, at_drop_all}
use Rattle.script_definitions.specs.Digits.{decimal_value, decimal_from}

-- a digit more keeps the bound
pub more_decimals : (n d i : ℕ) → n < 10 ^ i → d < 10 → 10 * n + d < 10 ^ (i + 1)
more_decimals n d i h k = let e : 10 ^ (i + 1) ≡ 10 * 10 ^ i = rw add-one (pow-succ' 10 i) in omega arith

-- more digits allow more
pub below_power : (n i k : ℕ) → n < 10 ^ i → i ≤ k → n < 10 ^ k
below_power n i k h j = let a : 10 ^ i ≤ 10 ^ k = pow-le-pow_right (lit< tt) j in omega arith

pub some_below : (o : Option ℕ) (i k : ℕ) → IfSome o (λ n. n < 10 ^ i) → i ≤ k → IfSome o (λ n. n < 10 ^ k)
some_below None i k h j = tt
some_below (Some n) i k h j = below_power n i k h j

-- up to nine digits fit into 32 bits
pub decimals_fit : (m i : ℕ) → m < 10 ^ i → i ≤ 9 → m < 2 ^ 32
decimals_fit m i h j = let a : m < 10 ^ 9 = below_power m i 9 h j in omega arith

-- a digit was read
pub decimal_more : (n d : ℕ) (w : List ℕ) (i : ℕ) → i < length w → decimal_value (get_or w i 0) ≡ Some d
    → decimal_from n (drop i w) ≡ decimal_from (10 * n + d) (drop (i + 1) w)
unfolding decimal_from
decimal_more n d w i h e = rw (at_drop_more (decimal_from n) w i 0 h, e) refl

-- an octet isn't a digit
pub decimal_fails : (n : ℕ) (w : List ℕ) (i : ℕ) → i < length w → decimal_value (get_or w i 0) ≡ None → decimal_from n (drop i w) ≡ None
unfolding decimal_from
decimal_fails n w i h e = rw (at_drop_more (decimal_from n) w i 0 h, e) refl

-- all was read
pub decimal_end : (n : ℕ) (w : List ℕ) (i : ℕ) → length w ≤ i → decimal_from n (drop i w) ≡ Some n
unfolding decimal_from
decimal_end n w i h = rw (at_drop_all (decimal_from n) w i h) refl
