-- Decimal numbers: read digit by digit, and the number that its own digits give.
use Rattle.std.proofs.Common.{◌≡◌, ℕ, ◌+◌, ◌-◌, ◌*◌, ◌/◌, ◌%◌, ◌^◌, ◌<◌, ◌≤◌, nat_le, nat_lt, true, List, [], ◌∷◌, ◌++◌, length, drop, get_or, Some, None, refl, ap, ◌∙◌, arith}
use Rattle.std.proofs.lemmas.Bool.Decides.{nat_tests}
use Rattle.std.proofs.lemmas.Fmt.{decimal_by_steps}
use Rattle.std.proofs.lemmas.List.{at_drop_more, at_drop_all}
use Rattle.std.specs.Fmt.{decimal}
use Rattle.script_definitions.specs.Digits.{◌>>=◌}
use Rattle.report_reader.specs.Forms.{next_digit, decimal_from, below_word}

-- a digit was read
pub decimal_more : (n m : ℕ) (w : List ℕ) (i : ℕ) → i < length w → next_digit n (get_or w i 0) ≡ Some m
    → decimal_from n (drop i w) ≡ decimal_from m (drop (i + 1) w)
unfolding decimal_from
decimal_more n m w i h e = rw (at_drop_more (decimal_from n) w i 0 h, e) refl

-- an octet isn't a digit, or the number is too large
pub decimal_fails : (n : ℕ) (w : List ℕ) (i : ℕ) → i < length w → next_digit n (get_or w i 0) ≡ None → decimal_from n (drop i w) ≡ None
unfolding decimal_from
decimal_fails n w i h e = rw (at_drop_more (decimal_from n) w i 0 h, e) refl

-- all was read
pub decimal_end : (n : ℕ) (w : List ℕ) (i : ℕ) → length w ≤ i → decimal_from n (drop i w) ≡ Some n
unfolding decimal_from
decimal_end n w i h = rw (at_drop_all (decimal_from n) w i h) refl

-- one digit
digit_read : (n d : ℕ) → 10 * n + d < 2 ^ 64 → d < 10 → next_digit n (48 + d) ≡ Some (10 * n + d)
digit_read n d small digit =
    let value : 48 + d - 48 ≡ d = omega arith in
    let low : nat_le 48 (48 + d) ≡ true = grind (arith, nat_tests) in
    let high : nat_le (48 + d) 57 ≡ true = grind (arith, nat_tests) in
    let fits : nat_lt (10 * n + d) (2 ^ 64) ≡ true = grind (arith, nat_tests) in
    rw (low, high, value, fits) refl

digit_only : (n d : ℕ) → 10 * n + d < 2 ^ 64 → d < 10 → decimal_from n ((48 + d) ∷ []) ≡ Some (10 * n + d)
unfolding decimal_from
digit_only n d small digit = ap (λ o. o >>= λ m. decimal_from m []) (digit_read n d small digit)

-- digits behind digits
digits_append : (n : ℕ) (xs ys : List ℕ) → decimal_from n (xs ++ ys) ≡ (decimal_from n xs >>= λ m. decimal_from m ys)
unfolding decimal_from
digits_append n [] ys = refl
digits_append n (x ∷ xs) ys =
    elim (next_digit n x) as (λ o. (o >>= λ m. decimal_from m (xs ++ ys)) ≡ ((o >>= λ m. decimal_from m xs) >>= λ m. decimal_from m ys)) [
      | None ↦ refl
      | Some m ↦ digits_append m xs ys
    ]

-- the digits of a number give it back
pub decimal_back : (n : ℕ) → n < 2 ^ 64 → decimal_from 0 (decimal n) ≡ Some n
decimal_back n h =
    decimal_by_steps (λ m ds. m < 2 ^ 64 → decimal_from 0 ds ≡ Some m)
    (λ m digit small.
    let same : 10 * 0 + m ≡ m = omega arith in
    digit_only 0 m (omega arith) digit ∙ ap Some same)
    (λ m ds big front small.
    let same : 10 * (m / 10) + m % 10 ≡ m = omega arith in
    digits_append 0 ds ((48 + m % 10) ∷ []) ∙ ap (λ o. o >>= λ k. decimal_from k ((48 + m % 10) ∷ [])) (front (omega arith))
    ∙ digit_only (m / 10) (m % 10) (omega arith) (omega arith) ∙ ap Some same)
    n h h

-- and below a bound
pub below_back : (bound n : ℕ) → n < bound → n < 2 ^ 64 → below_word bound (decimal n) ≡ Some n
unfolding below_word
below_back bound n h k =
    let fits : nat_lt n bound ≡ true = grind (arith, nat_tests) in
    rw (decimal_back n k, fits) refl
