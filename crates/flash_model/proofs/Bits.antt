-- One octet: what a mask takes, and what lies between an old and a new one.
use Rattle.std.proofs.Common.{◌≡◌, ◌⊎◌, ℕ, zero, suc, ◌+◌, ◌-◌, ◌*◌, ◌/◌, ◌%◌, ◌<◌, ◌≤◌, min, max, refl, sym, ◌∙◌, subst, inl, inr, ⊎_elim, arith}
use Rattle.std.specs.Prelude.{bit_and, bit_or}
use Rattle.std.specs.Int.{bit_at, w8}
use Rattle.std.proofs.lemmas.Nat.Bits.{bit_at_or, bit_at_and, bit_at_not, bit_at_above, bit_at-lt, bit_at_ones, same_from_bits, bit_at_cat_low}
use Rattle.flash_model.specs.Octets.{IsBetween, IsMasked}

at_most_one : (n j : ℕ) → (bit_at n j ≡ 0) ⊎ (bit_at n j ≡ 1)
at_most_one n j = let lt = bit_at-lt n j in small (bit_at n j) lt
  where
    small : (b : ℕ) → b < 2 → (b ≡ 0) ⊎ (b ≡ 1)
    small zero h = inl refl
    small (suc zero) h = inr refl
    small (suc (suc b)) h = absurd (omega arith)

cases_8 : (j : ℕ) → (j < 8) ⊎ (8 ≤ j)
cases_8 j = grind arith

-- what the code computes
pub masked_lem : (mask old new : ℕ) → mask < 256 → old < 256 → IsMasked mask old new (bit_or (bit_and old (255 - mask)) (bit_and new mask))
masked_lem mask old new m o = record {
  taken = λ j is. ⊎_elim (λ low. taken_low j is low) (λ high. absurd (omega (arith, is, bit_at_above mask 8 j m high))) (cases_8 j);
  kept = λ j is. ⊎_elim (λ low. kept_low j is low) (λ high. kept_high j is high) (cases_8 j);
}
  where
    each : (j : ℕ) → bit_at (bit_or (bit_and old (255 - mask)) (bit_and new mask)) j ≡ max (min (bit_at old j) (bit_at (255 - mask) j)) (min (bit_at new j) (bit_at mask j))
    each j = bit_at_or _ _ j ∙ (λ i. max (bit_at_and old (255 - mask) j i) (bit_at_and new mask j i))

    taken_low : (j : ℕ) → bit_at mask j ≡ 1 → j < 8 → bit_at (bit_or (bit_and old (255 - mask)) (bit_and new mask)) j ≡ bit_at new j
    taken_low j is low =
        let e = each j in
        let n : bit_at (255 - mask) j ≡ 1 - bit_at mask j = bit_at_not w8 mask j m low in
        omega (arith, e, n, is, bit_at-lt old j, bit_at-lt new j)

    kept_low : (j : ℕ) → bit_at mask j ≡ 0 → j < 8 → bit_at (bit_or (bit_and old (255 - mask)) (bit_and new mask)) j ≡ bit_at old j
    kept_low j is low =
        let e = each j in
        let n : bit_at (255 - mask) j ≡ 1 - bit_at mask j = bit_at_not w8 mask j m low in
        omega (arith, e, n, is, bit_at-lt old j, bit_at-lt new j)

    kept_high : (j : ℕ) → bit_at mask j ≡ 0 → 8 ≤ j → bit_at (bit_or (bit_and old (255 - mask)) (bit_and new mask)) j ≡ bit_at old j
    kept_high j is high = let e = each j in omega (arith, e, is, bit_at_above old 8 j o high)

-- a mask takes between
pub masked_between : (mask old new x : ℕ) → IsMasked mask old new x → IsBetween old new x
masked_between mask old new x by j = ⊎_elim (λ is. inl (by.kept j is)) (λ is. inr (by.taken j is)) (at_most_one mask j)

-- what stays, stays under every mask
pub masked_same : (mask a x : ℕ) → IsMasked mask a a x → x ≡ a
masked_same mask a x by = same_from_bits x a (λ j. ⊎_elim (λ is. by.kept j is) (λ is. by.taken j is) (at_most_one mask j))

-- mask ff takes all of an octet
pub masked_whole : (old new x : ℕ) → old < 256 → new < 256 → IsMasked 255 old new x → x ≡ new
masked_whole old new x o n by = same_from_bits x new (λ j. ⊎_elim (λ low. by.taken j (bit_at_ones 8 j low)) (λ high. high_bits j high) (cases_8 j))
  where
    high_bits : (j : ℕ) → 8 ≤ j → bit_at x j ≡ bit_at new j
    high_bits j high = by.kept j (bit_at_above 255 8 j (omega arith) high) ∙ bit_at_above old 8 j o high ∙ sym (bit_at_above new 8 j n high)

pub between_same : (a x : ℕ) → IsBetween a a x → x ≡ a
between_same a x by = same_from_bits x a (λ j. ⊎_elim (λ e. e) (λ e. e) (by j))

-- a number with no bit from 8 on is an octet
octet_of_bits : (x : ℕ) → ((j : ℕ) → 8 ≤ j → bit_at x j ≡ 0) → x < 256
octet_of_bits x none =
    let rest : x % 256 < 256 = omega arith in
    let split : x / 256 * 256 + x % 256 ≡ x = omega arith in
    let same : x ≡ x % 256 = same_from_bits x (x % 256) (λ j. ⊎_elim
    (λ low. subst (λ (y : ℕ). bit_at y j ≡ bit_at (x % 256) j) split (bit_at_cat_low (x / 256) 8 (x % 256) j low))
    (λ high. none j high ∙ sym (bit_at_above (x % 256) 8 j rest high)) (cases_8 j)) in
    omega arith

-- what lies between octets is an octet
pub between_small : (a b x : ℕ) → a < 256 → b < 256 → IsBetween a b x → x < 256
between_small a b x small_a small_b by =
    octet_of_bits x (λ j high. ⊎_elim (λ e. e ∙ bit_at_above a 8 j small_a high) (λ e. e ∙ bit_at_above b 8 j small_b high) (by j))
