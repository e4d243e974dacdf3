-- Headers that an erase can make count where it is cut, and no others.
use Rattle.std.proofs.Common.{◌≡◌, ◌⊎◌, ℕ, zero, suc, ◌+◌, ◌-◌, ◌<◌, ◌≤◌, List, ◌∷◌, get_or, length, drop, true, false, refl, sym, ap, ◌∙◌, subst, inl, inr, ⊎_elim, arith, true≢false, length-drop}
use Rattle.std.specs.Prelude.{bit_and}
use Rattle.std.specs.Int.{bit_at, w8}
use Rattle.std.proofs.lemmas.Bool.{cases_lt}
use Rattle.std.proofs.lemmas.List.{get_or-drop}
use Rattle.std.proofs.lemmas.Nat.{and_le_r}
use Rattle.std.proofs.lemmas.Nat.Bits.{bit_at_and, bit_at_above, bit_at_not, bit_at_ones, bit_at-lt, bit_at-zero, same_from_bits}
use Rattle.flash_model.specs.Octets.{IsBetween, IsTorn}
use Rattle.slot_definitions.specs.Slots.{blank_text, gate_of, format_of, is_sound}
use Rattle.slot_journal.specs.Headers.{AreApart, IsSteady}
use Rattle.slot_journal.proofs.Steady.{rises, sound_facts, sound_from, steady_sound}

-- an octet between one and ff is an octet
small_between : (a x : ℕ) → a < 256 → IsBetween a 255 x → x < 256
small_between a x small by =
    let same : bit_and x 255 ≡ x = same_from_bits (bit_and x 255) x (λ j. bit_at_and x 255 j ∙ ⊎_elim
    (λ (low : j < 8). let one : bit_at 255 j ≡ 1 = bit_at_ones 8 j low in let lt = bit_at-lt x j in omega (arith, one, lt))
    (λ (high : 8 ≤ j).
    let none : bit_at x j ≡ 0 = ⊎_elim
    (λ (e : bit_at x j ≡ bit_at a j). e ∙ bit_at_above a 8 j small high)
    (λ (e : bit_at x j ≡ bit_at 255 j). e ∙ bit_at_above 255 8 j (omega arith) high)
    (by j) in
    omega (arith, none))
    (cases_lt j 8)) in
    let le = and_le_r x 255 in
    omega (arith, same, le)

-- octets below two that are each other's complement share no bit
apart_octets : (a c x y : ℕ) → a < 256 → c < 256 → IsBetween a 255 x → IsBetween c 255 y → x + y ≡ 255 → bit_and a c ≡ 0
apart_octets a c x y small_a small_c up_a up_c sum = same_from_bits (bit_and a c) 0 (λ j. bit_at_and a c j ∙
    (let zeros = bit_at-zero j in
    ⊎_elim
    (λ (low : j < 8).
    let is : y ≡ 255 - x = omega (arith, sum) in
    let not : bit_at (255 - x) j ≡ 1 - bit_at x j = bit_at_not w8 x j (small_between a x small_a up_a) low in
    let other : bit_at y j ≡ 1 - bit_at x j = ap (λ (n : ℕ). bit_at n j) is ∙ not in
    let one : bit_at 255 j ≡ 1 = bit_at_ones 8 j low in
    let la = bit_at-lt a j in
    let lc = bit_at-lt c j in
    ⊎_elim
    (λ (e : bit_at x j ≡ bit_at a j). ⊎_elim
    (λ (f : bit_at y j ≡ bit_at c j). omega (arith, e, f, other, la, lc, zeros))
    (λ (f : bit_at y j ≡ bit_at 255 j). omega (arith, e, f, one, other, la, lc, zeros))
    (up_c j))
    (λ (e : bit_at x j ≡ bit_at 255 j). ⊎_elim
    (λ (f : bit_at y j ≡ bit_at c j). omega (arith, e, f, one, other, la, lc, zeros))
    (λ (f : bit_at y j ≡ bit_at 255 j). omega (arith, e, f, one, other, la, lc, zeros))
    (up_c j))
    (up_a j))
    (λ (high : 8 ≤ j). let none = bit_at_above a 8 j small_a high in omega (arith, none, zeros))
    (cases_lt j 8)))

-- the complement of an octet is above each that shares no bit with it
complement_between : (a c : ℕ) → a < 256 → c < 256 → bit_and a c ≡ 0 → IsBetween a 255 (255 - c)
complement_between a c small_a small_c apart j = ⊎_elim
    (λ (low : j < 8).
    let not : bit_at (255 - c) j ≡ 1 - bit_at c j = bit_at_not w8 c j small_c low in
    let one : bit_at 255 j ≡ 1 = bit_at_ones 8 j low in
    let both = sym (bit_at_and a c j) ∙ ap (λ (n : ℕ). bit_at n j) apart ∙ bit_at-zero j in
    let lc = bit_at-lt c j in
    ⊎_elim
    (λ (e : bit_at c j < 1). inr (omega (arith, not, one, e)))
    (λ (e : 1 ≤ bit_at c j). inl (omega (arith, not, both, e, lc)))
    (cases_lt (bit_at c j) 1))
    (λ (high : 8 ≤ j). inl (bit_at_above (255 - c) 8 j (omega arith) high ∙ sym (bit_at_above a 8 j small_a high)))
    (cases_lt j 8)

-- format 00 is below 01
none_below_one : IsBetween 0 255 1
none_below_one zero = inr refl
none_below_one (suc j) = inl (bit_at_above 1 1 (suc j) (omega arith) (omega arith) ∙ sym (bit_at-zero (suc j)))

module _ (text : List ℕ) (small : (k : ℕ) → get_or text k 0 < 256) where
  -- where an erase that is cut leaves a sound header
  pub may_count : (torn : List ℕ) → IsTorn text blank_text torn → is_sound torn ≡ true → (gate_of text ≡ 0) × (format_of text ≤ 2) × AreApart text
  may_count torn so now =
      let after = sound_facts torn now in
      let gate = after.gate in
      let sum = after.complement in
      let h31 : gate_of text ≤ gate_of torn = rises _ _ (small 31) (so.each 31) in
      let h1 : format_of text ≤ format_of torn = rises _ _ (small 1) (so.each 1) in
      let s2 = small_between _ _ (small 2) (so.each 2) in
      let s3 = small_between _ _ (small 3) (so.each 3) in
      let s4 = small_between _ _ (small 4) (so.each 4) in
      let s5 = small_between _ _ (small 5) (so.each 5) in
      let s6 = small_between _ _ (small 6) (so.each 6) in
      let s7 = small_between _ _ (small 7) (so.each 7) in
      let s8 = small_between _ _ (small 8) (so.each 8) in
      let s9 = small_between _ _ (small 9) (so.each 9) in
      let e2 : get_or torn 2 0 + get_or torn 6 0 ≡ 255 = omega (arith, sum, s2, s3, s4, s5, s6, s7, s8, s9) in
      let e3 : get_or torn 3 0 + get_or torn 7 0 ≡ 255 = omega (arith, sum, s2, s3, s4, s5, s6, s7, s8, s9) in
      let e4 : get_or torn 4 0 + get_or torn 8 0 ≡ 255 = omega (arith, sum, s2, s3, s4, s5, s6, s7, s8, s9) in
      let e5 : get_or torn 5 0 + get_or torn 9 0 ≡ 255 = omega (arith, sum, s2, s3, s4, s5, s6, s7, s8, s9) in (
        omega (arith, gate, h31),
        ⊎_elim (λ (one : format_of torn ≡ 1). omega (arith, one, h1)) (λ (two : format_of torn ≡ 2). omega (arith, two, h1)) after.format,
        (
          apart_octets _ _ _ _ (small 2) (small 6) (so.each 2) (so.each 6) e2,
          apart_octets _ _ _ _ (small 3) (small 7) (so.each 3) (so.each 7) e3,
          apart_octets _ _ _ _ (small 4) (small 8) (so.each 4) (so.each 8) e4,
          apart_octets _ _ _ _ (small 5) (small 9) (so.each 5) (so.each 9) e5,
        ),
      )

  -- so a header is steady that is sound, or that has a bit in the way
  pub steady_else : (gate_of text ≡ 0 → format_of text ≤ 2 → AreApart text → is_sound text ≡ true) → IsSteady text
  steady_else but = record {
    sound = λ torn so now.
        let may = may_count torn so now in
        (steady_sound text small (but may.0 may.1 may.2)).sound torn so now;
  }

  -- what a cut can leave of the others
  abbrev above : ℕ → List ℕ
  above format = get_or text 0 0 ∷ format ∷ (255 - get_or text 6 0) ∷ (255 - get_or text 7 0) ∷ (255 - get_or text 8 0) ∷ (255 - get_or text 9 0) ∷ drop 6 text

  between_above : (format : ℕ) → IsBetween (format_of text) 255 format → AreApart text → (o : ℕ) → IsBetween (get_or text o 0) (get_or blank_text o 0) (get_or (above format) o 0)
  between_above format up apart zero = λ j. inl refl
  between_above format up apart (suc zero) = up
  between_above format up apart (suc (suc zero)) = complement_between _ _ (small 2) (small 6) apart.0
  between_above format up apart (suc (suc (suc zero))) = complement_between _ _ (small 3) (small 7) apart.1
  between_above format up apart (suc (suc (suc (suc zero)))) = complement_between _ _ (small 4) (small 8) apart.2
  between_above format up apart (suc (suc (suc (suc (suc zero))))) = complement_between _ _ (small 5) (small 9) apart.3
  between_above format up apart (suc (suc (suc (suc (suc (suc o)))))) = λ j.
      let same : 6 + o ≡ suc (suc (suc (suc (suc (suc o))))) = omega arith in
      inl (ap (λ (x : ℕ). bit_at x j) (get_or-drop 6 text o 0 ∙ ap (λ (n : ℕ). get_or text n 0) same))

  format_above : format_of text ≤ 2 → (format : ℕ) × ((format ≡ 1) ⊎ (format ≡ 2)) × IsBetween (format_of text) 255 format
  format_above few = ⊎_elim
      (λ (none : format_of text < 1).
      let is : format_of text ≡ 0 = omega (arith, none) in
      (1, inl refl, subst (λ (f : ℕ). IsBetween f 255 1) (sym is) none_below_one))
      (λ (some : 1 ≤ format_of text). (format_of text, either some, λ j. inl refl))
      (cases_lt (format_of text) 1)
    where
      either : 1 ≤ format_of text → (format_of text ≡ 1) ⊎ (format_of text ≡ 2)
      either some = ⊎_elim
          (λ (low : format_of text < 2). inl (omega (arith, low, some)))
          (λ (high : 2 ≤ format_of text). inr (omega (arith, high, few)))
          (cases_lt (format_of text) 2)

  pub unsteady : length text ≡ 32 → gate_of text ≡ 0 → format_of text ≤ 2 → AreApart text → is_sound text ≡ false → IsSteady text → ⊥
  unsteady size gate few apart not steady = unsteady_by (format_above few)
    where
      unsteady_by : ((format : ℕ) × ((format ≡ 1) ⊎ (format ≡ 2)) × IsBetween (format_of text) 255 format) → ⊥
      unsteady_by format =
          let torn = above format.0 in
          let o6 = get_or-drop 6 text 0 0 in
          let o7 = get_or-drop 6 text 1 0 in
          let o8 = get_or-drop 6 text 2 0 in
          let o9 = get_or-drop 6 text 3 0 in
          let s6 = small 6 in
          let s7 = small 7 in
          let s8 = small 8 in
          let s9 = small 9 in
          let sound : is_sound torn ≡ true = sound_from torn (record {
            gate = get_or-drop 6 text 25 0 ∙ gate;
            format = format.1;
            complement = omega (arith, o6, o7, o8, o9, s6, s7, s8, s9);
          }) in
          let was = steady.sound torn (record { size = (let l = length-drop 6 text in omega (arith, l, size)); each = between_above format.0 format.2 apart }) sound in
          absurd (true≢false (sym was.sound ∙ not))
