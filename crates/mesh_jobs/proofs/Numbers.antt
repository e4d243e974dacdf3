-- BlockAck of all pieces.
use Rattle.std.proofs.Common.{◌≡◌, ◌∙◌, ℕ, ◌+◌, ◌-◌, ◌*◌, ◌/◌, ◌^◌, ◌<◌, ap, sym, arith, pow-add}
use Rattle.std.proofs.lemmas.Nat.{div-mul-add, pow_pos}

-- a number that is one less than a product
one_less : (t a w : ℕ) → 0 < w → (a + 1) * w ≡ t + 1 → t / w ≡ a
one_less t a w some product =
    let sum : t ≡ a * w + (w - 1) = grind (arith) in
    ap (λ n. n / w) sum ∙ div-mul-add a w (w - 1) (omega arith)

pub all_pieces : (n : ℕ) → n < 32 → 4294967295 / 2 ^ (31 - n) ≡ 2 ^ (n + 1) - 1
all_pieces n small =
    let some : 0 < 2 ^ (n + 1) = pow_pos (n + 1) in
    let same : 2 ^ (n + 1) - 1 + 1 ≡ 2 ^ (n + 1) = omega arith in
    let whole : n + 1 + (31 - n) ≡ 32 = omega arith in
    one_less 4294967295 (2 ^ (n + 1) - 1) (2 ^ (31 - n)) (pow_pos (31 - n))
    (ap (λ k. k * 2 ^ (31 - n)) same ∙ sym (pow-add 2 (n + 1) (31 - n)) ∙ ap (λ k. 2 ^ k) whole)
