-- How far a way is gone, and levels in their range.
use Rattle.std.proofs.Common.{◌≡◌, ℕ, zero, suc, ◌*◌, ◌/◌, ◌<◌, ◌≤◌, ℤ, pos, negsuc, neg_ℤ, ◌+ℤ◌, ◌-ℤ◌, ◌≤ℤ◌, ◌⊎◌, inl, inr, arith, w16, w64, FitsSigned}
use Rattle.std.specs.Int.{saturate_signed}
use Rattle.std.proofs.lemmas.Int.{ints}
use lib.Signed.{quot_z}
use Rattle.std.proofs.Math.Nat.{mul-le-mul_left, div-le_of_le-mul, div-le_self}
use Rattle.model_states.specs.Level.{in_range, way_gone}

-- a quotient of a product by more than a factor is at most the other factor
part-at_most : (n e d : ℕ) → e < d → n * e / d ≤ n
part-at_most n e d h =
    let more : n * e ≤ n * d = mul-le-mul_left n (omega (arith, h)) in
    div-le_of_le-mul d (omega (arith, more))

-- what is gone of it lies between nothing and the whole way
pub way_gone-between : (way : ℤ) (e d : ℕ) → e < d
    → ((pos 0 ≤ℤ way_gone way e d) × (way_gone way e d ≤ℤ way)) ⊎ ((way ≤ℤ way_gone way e d) × (way_gone way e d ≤ℤ pos 0))
way_gone-between (pos n) e d h =
    let most = part-at_most n e d h in
    inl (omega (arith, ints, most), omega (arith, ints, most))
way_gone-between (negsuc n) e d h = inr (back (suc n * e) (part-at_most (suc n) e d h))
  where
    back : (m : ℕ) → m / d ≤ suc n → (negsuc n ≤ℤ quot_z (neg_ℤ (pos m)) (pos d)) × (quot_z (neg_ℤ (pos m)) (pos d) ≤ℤ pos 0)
    back zero k = (omega (arith, ints, div-le_self 0 d), omega (arith, ints, div-le_self 0 d))
    back (suc m) k = (omega (arith, ints, k), omega (arith, ints, k))

-- the nearest level to a number is that of the nearest number of 64 bits
pub in_range-saturate : (z : ℤ) → in_range (saturate_signed w64 z) ≡ in_range z
in_range-saturate (pos n) = grind arith
in_range-saturate (negsuc n) = grind arith

-- from one level to another, what is gone of the way leads to a level
pub part-fits : (start target : ℤ) (e d : ℕ) → FitsSigned w16 start → FitsSigned w16 target → e < d
    → FitsSigned w16 (start +ℤ way_gone (target -ℤ start) e d)
part-fits start target e d s t h =
    elim (way_gone-between (target -ℤ start) e d h) [ inl p ↦ omega (arith, ints, s, t, p.0, p.1) | inr p ↦ omega (arith, ints, s, t, p.0, p.1) ]

pub wider : (z : ℤ) → FitsSigned w16 z → FitsSigned w64 z
wider z h = omega (arith, ints, h)
