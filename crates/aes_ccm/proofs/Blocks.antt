-- Blocks that the code lays out octet by octet, against their definitions.
use Rattle.std.proofs.Common.{◌≡◌, ℕ, suc, ◌+◌, ◌-◌, List, ◌∷◌, ◌++◌, get_or, map, length, drop, replicate, refl, sym, arith}
use Rattle.std.specs.List.{range_with_len}
use Rattle.std.proofs.lemmas.List.{drop-replicate}
use Rattle.std.proofs.lemmas.List.FromFn.{fill_by_all}
use Rattle.cipher_definitions.specs.Octets.{whole_block}

-- the reads of a nonce, one after the other, are the nonce
pub nonce_reads : (nonce : List ℕ) → length nonce ≡ 13 → map (λ i. get_or nonce i 0) (range_with_len 0 13) ≡ nonce
nonce_reads nonce h = sym (fill_by_all (λ i. get_or nonce i 0) nonce 13 0 h (λ k below. refl))

-- two octets, those of a list, and zeros
pub filled_after_two : (x y : ℕ) (front : List ℕ)
    → x ∷ y ∷ (front ++ drop (2 + length front - 2) (replicate 14 0)) ≡ whole_block (x ∷ y ∷ front)
unfolding whole_block
filled_after_two x y front =
    let e : 2 + length front - 2 ≡ length front = omega arith in
    let f : 16 - suc (suc (length front)) ≡ 14 - length front = omega arith in
    rw (e, f, drop-replicate) refl
