-- Which bank counts, by the headers of both.
use Rattle.std.proofs.Common.{◌≡◌, ℕ, zero, suc, ◌+◌, ◌*◌, ◌%◌, ◌<◌, ◌≤◌, List, Bool, true, false, Option, Some, None, refl, sym, ap, ◌∙◌, arith}
use Rattle.std.specs.Prelude.{◌==◌, nat_lt, if◌then◌else◌}
use Rattle.std.proofs.lemmas.Bool.{eq-eqb, ne_eqb}
use Rattle.slot_definitions.specs.Slots.{text_at, is_sound, generation_of, counting, counting_by, newer}

some_same : (m n : ℕ) → Some m ≡ Some n → m ≡ n
some_same m n h = cc

module _ (first second : List ℕ) where
  abbrev by_tests : Bool → Bool → ℕ → ℕ → Option ℕ
  by_tests a b g h = if a then (if b then Some (newer g h) else Some 0) else (if b then Some 1 else None)

  pub counting_none : is_sound first ≡ false → is_sound second ≡ false → counting_by first second ≡ None
  unfolding counting_by
  counting_none one two = λ i. by_tests (one i) (two i) (generation_of first) (generation_of second)

  pub counting_first : is_sound first ≡ true → is_sound second ≡ false → counting_by first second ≡ Some 0
  unfolding counting_by
  counting_first one two = λ i. by_tests (one i) (two i) (generation_of first) (generation_of second)

  pub counting_second : is_sound first ≡ false → is_sound second ≡ true → counting_by first second ≡ Some 1
  unfolding counting_by
  counting_second one two = λ i. by_tests (one i) (two i) (generation_of first) (generation_of second)

  pub counting_newer : is_sound first ≡ true → is_sound second ≡ true → counting_by first second ≡ Some (newer (generation_of first) (generation_of second))
  unfolding counting_by
  counting_newer one two = λ i. by_tests (one i) (two i) (generation_of first) (generation_of second)

  first_sound : counting_by first second ≡ Some 0 → is_sound first ≡ true
  unfolding counting_by
  first_sound is = by_sound (is_sound first) (is_sound second) is
    where
      by_sound : (a b : Bool) → by_tests a b (generation_of first) (generation_of second) ≡ Some 0 → a ≡ true
      by_sound true b h = refl
      by_sound false true h = let e = some_same 1 0 h in absurd (omega (arith, e))
      by_sound false false h = absurd cc

  second_sound : counting_by first second ≡ Some 1 → is_sound second ≡ true
  unfolding counting_by
  second_sound is = by_sound (is_sound first) (is_sound second) is
    where
      by_sound : (a b : Bool) → by_tests a b (generation_of first) (generation_of second) ≡ Some 1 → b ≡ true
      by_sound a true h = refl
      by_sound true false h = let e = some_same 0 1 h in absurd (omega (arith, e))
      by_sound false false h = absurd cc

-- of both banks
pub both_banks : (P : ℕ → Type 0) (own other : ℕ) → own + other ≡ 1 → P own → P other → (bank : ℕ) → bank ≤ 1 → P bank
both_banks P zero (suc zero) sides one two zero low = one
both_banks P zero (suc zero) sides one two (suc zero) low = two
both_banks P (suc zero) zero sides one two zero low = two
both_banks P (suc zero) zero sides one two (suc zero) low = one
both_banks P zero zero sides one two bank low = absurd (omega (arith, sides))
both_banks P zero (suc (suc n)) sides one two bank low = absurd (omega (arith, sides))
both_banks P (suc zero) (suc n) sides one two bank low = absurd (omega (arith, sides))
both_banks P (suc (suc m)) other sides one two bank low = absurd (omega (arith, sides))
both_banks P own other sides one two (suc (suc n)) low = absurd (omega arith)

module _ (c : List ℕ) where
  -- the bank that counts has a sound header
  pub own_sound : (own : ℕ) → own ≤ 1 → counting c ≡ Some own → is_sound (text_at c (1024 * own)) ≡ true
  own_sound zero low is = first_sound (text_at c 0) (text_at c 1024) is
  own_sound (suc zero) low is = second_sound (text_at c 0) (text_at c 1024) is
  own_sound (suc (suc n)) low is = absurd (omega arith)

  -- the only sound header counts
  pub counts_alone : (own other : ℕ) → own + other ≡ 1 → is_sound (text_at c (1024 * own)) ≡ true → is_sound (text_at c (1024 * other)) ≡ false → counting c ≡ Some own
  counts_alone zero (suc zero) sides one two = counting_first (text_at c 0) (text_at c 1024) one two
  counts_alone (suc zero) zero sides one two = counting_second (text_at c 0) (text_at c 1024) two one
  counts_alone zero zero sides one two = absurd (omega (arith, sides))
  counts_alone zero (suc (suc n)) sides one two = absurd (omega (arith, sides))
  counts_alone (suc zero) (suc n) sides one two = absurd (omega (arith, sides))
  counts_alone (suc (suc m)) other sides one two = absurd (omega (arith, sides))

newer_second : (g : ℕ) → newer g ((g + 1) % 4294967296) ≡ 1
newer_second g = ap (λ b. if b then 1 else (if g == ((g + 1) % 4294967296 + 1) % 4294967296 then 0 else (if nat_lt g ((g + 1) % 4294967296) then 1 else 0))) (eq-eqb ((g + 1) % 4294967296) ((g + 1) % 4294967296) refl)

newer_first : (g : ℕ) → g < 4294967296 → newer ((g + 1) % 4294967296) g ≡ 0
newer_first g small =
    ap (λ b. if b then 1 else (if (g + 1) % 4294967296 == (g + 1) % 4294967296 then 0 else (if nat_lt ((g + 1) % 4294967296) g then 1 else 0)))
    (ne_eqb g (((g + 1) % 4294967296 + 1) % 4294967296) (λ e. absurd (omega (arith, e, small))))
    ∙ ap (λ b. if b then 0 else (if nat_lt ((g + 1) % 4294967296) g then 1 else 0)) (eq-eqb ((g + 1) % 4294967296) ((g + 1) % 4294967296) refl)

-- the next generation counts
pub counts_next : (c : List ℕ) (own other g : ℕ) → own + other ≡ 1 → g < 4294967296 → is_sound (text_at c (1024 * own)) ≡ true → generation_of (text_at c (1024 * own)) ≡ g
    → is_sound (text_at c (1024 * other)) ≡ true → generation_of (text_at c (1024 * other)) ≡ (g + 1) % 4294967296 → counting c ≡ Some other
counts_next c zero (suc zero) g sides small one is two next = counting_newer (text_at c 0) (text_at c 1024) one two ∙ ap Some ((λ i. newer (is i) (next i)) ∙ newer_second g)
counts_next c (suc zero) zero g sides small one is two next = counting_newer (text_at c 0) (text_at c 1024) two one ∙ ap Some ((λ i. newer (next i) (is i)) ∙ newer_first g small)
counts_next c zero zero g sides small one is two next = absurd (omega (arith, sides))
counts_next c zero (suc (suc n)) g sides small one is two next = absurd (omega (arith, sides))
counts_next c (suc zero) (suc n) g sides small one is two next = absurd (omega (arith, sides))
counts_next c (suc (suc m)) other g sides small one is two next = absurd (omega (arith, sides))

-- both headers are sound in both contents, with their generations
pub counts_like : (c d : List ℕ) → is_sound (text_at c 0) ≡ true → is_sound (text_at c 1024) ≡ true → is_sound (text_at d 0) ≡ true → is_sound (text_at d 1024) ≡ true
    → generation_of (text_at c 0) ≡ generation_of (text_at d 0) → generation_of (text_at c 1024) ≡ generation_of (text_at d 1024) → counting c ≡ counting d
counts_like c d c0 c1 d0 d1 zero_is one_is =
    counting_newer (text_at c 0) (text_at c 1024) c0 c1 ∙ (λ i. Some (newer (zero_is i) (one_is i))) ∙ sym (counting_newer (text_at d 0) (text_at d 1024) d0 d1)
