-- The places of digits.
use Rattle.std.proofs.Common.{ℕ, ◌^◌, ◌<◌, ◌≤◌, arith, lit<}
use Rattle.std.proofs.Math.Nat.{one-le-pow, pow-le-pow_right}

-- a digit of a number of 32 bits is found by a division by less than 2 ^ 32
pub place_fits : (k : ℕ) → k < 8 → 16 ^ k < 2 ^ 32
place_fits k h =
    let a : k ≤ 7 = omega arith in
    let b : 16 ^ k ≤ 16 ^ 7 = pow-le-pow_right (lit< tt) a in
    omega arith

pub place_is_some : (k : ℕ) → 0 < 16 ^ k
place_is_some k = one-le-pow k 16 (lit< tt)
