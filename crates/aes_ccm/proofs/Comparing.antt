-- The loop that compares two MICs: no bit of difference is seen exactly where the octets are the same.
use Rattle.std.proofs.Common.{◌≡◌, ◌↔◌, ℕ, ◌+◌, ◌<◌, List, [], ◌∷◌, length, get_or, take, bit_or, bit_xor, refl, ap, sym, ◌∙◌, arith}
use Rattle.std.specs.Int.Bits.{xor_self, xor_zero_r, xor_assoc}
use Rattle.std.proofs.lemmas.Nat.{le_or_l, le_or_r}
use Rattle.std.proofs.lemmas.List.{take_more, get_or-take, append_cancel_right}

-- octets with no bit of difference are the same
same_octet : (x y : ℕ) → bit_xor x y ≡ 0 → x ≡ y
same_octet x y h =
    sym (xor_zero_r x) ∙ ap (λ n. bit_xor x n) (sym h) ∙ sym (xor_assoc x x y) ∙ ap (λ n. bit_xor n y) (xor_self x)

-- one octet more is compared
pub same_turn : (xs ys : List ℕ) (d i : ℕ) → i < length xs → i < length ys → (d ≡ 0) ↔ (take i xs ≡ take i ys)
    → (bit_or d (bit_xor (get_or xs i 0) (get_or ys i 0)) ≡ 0) ↔ (take (i + 1) xs ≡ take (i + 1) ys)
same_turn xs ys d i h k given =
    let x = get_or xs i 0 in
    let y = get_or ys i 0 in (
      (λ (e : bit_or d (bit_xor x y) ≡ 0).
          let none : d ≡ 0 = omega (arith, le_or_l d (bit_xor x y)) in
          let same : x ≡ y = same_octet x y (omega (arith, le_or_r d (bit_xor x y))) in
          rw (take_more xs i 0 h, take_more ys i 0 k, given.0 none, same) refl),
      (λ (e : take (i + 1) xs ≡ take (i + 1) ys).
          let before : i < i + 1 = omega arith in
          let same : x ≡ y = sym (get_or-take (i + 1) xs i 0 before) ∙ ap (λ (zs : List ℕ). get_or zs i 0) e ∙ get_or-take (i + 1) ys i 0 before in
          let front : take i xs ≡ take i ys =
          append_cancel_right (take i xs) (take i ys) (y ∷ []) (rw (take_more xs i 0 h, take_more ys i 0 k, same) at e) in
          rw (given.1 front, same, xor_self y) refl),
    )
