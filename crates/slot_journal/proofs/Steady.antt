-- Headers that an erase can't make count, however it is cut.
use Rattle.std.proofs.Common.{◌≡◌, ◌≢◌, ◌⊎◌, ℕ, ◌+◌, ◌-◌, ◌*◌, ◌<◌, ◌≤◌, List, get_or, Bool, true, false, refl, sym, ap, ◌∙◌, subst, inl, inr, ⊎_elim, arith, true≢false}
use Rattle.std.specs.Prelude.{bit_and, ◌&&◌, ◌||◌, ◌==◌}
use Rattle.std.specs.Int.{bit_at}
use Rattle.std.proofs.lemmas.Bool.{cases_lt, eqb-true, eq-eqb, ne_eqb}
use Rattle.std.proofs.lemmas.List.{get_or_past}
use Rattle.std.proofs.lemmas.Nat.{and_le_r, from_be_bytes-to_be_bytes_4}
use Rattle.std.proofs.lemmas.Nat.Bits.{bit_at_and, bit_at_above, bit_at_ones, bit_at-lt, same_from_bits}
use Rattle.flash_model.specs.Octets.{IsBetween, IsContent, IsTorn}
use Rattle.slot_definitions.specs.Slots.{text_at, text_of, blank_text, gate_of, format_of, is_sound, header_of, number_at, generation_of}
use Rattle.slot_journal.specs.Headers.{IsSteady}
use Rattle.slot_journal.proofs.Texts.{get_text, length_text}

-- an octet between one and ff has all its bits
pub covers : (a x : ℕ) → a < 256 → IsBetween a 255 x → bit_and a x ≡ a
covers a x small by = same_from_bits (bit_and a x) a (λ j. bit_at_and a x j ∙ ⊎_elim
    (λ (e : bit_at x j ≡ bit_at a j). omega (arith, e))
    (λ (e : bit_at x j ≡ bit_at 255 j). ⊎_elim
    (λ (low : j < 8). let one : bit_at 255 j ≡ 1 = bit_at_ones 8 j low in let lt = bit_at-lt a j in omega (arith, e, one, lt))
    (λ (high : 8 ≤ j). let none = bit_at_above a 8 j small high in omega (arith, e, none))
    (cases_lt j 8))
    (by j))

pub rises : (a x : ℕ) → a < 256 → IsBetween a 255 x → a ≤ x
rises a x small by =
    let same = covers a x small by in
    let le = and_le_r a x in
    omega (arith, same, le)

-- of the formats 01 and 02 neither has the bits of the other
format_same : (a x : ℕ) → (a ≡ 1) ⊎ (a ≡ 2) → (x ≡ 1) ⊎ (x ≡ 2) → bit_and a x ≡ a → x ≡ a
format_same a x (inl p) (inl q) has = omega (arith, p, q)
format_same a x (inl p) (inr q) has = let e : bit_and 1 2 ≡ 1 = (λ i. bit_and (sym p i) (sym q i)) ∙ has ∙ p in absurd (omega (arith, e))
format_same a x (inr p) (inl q) has = let e : bit_and 2 1 ≡ 2 = (λ i. bit_and (sym p i) (sym q i)) ∙ has ∙ p in absurd (omega (arith, e))
format_same a x (inr p) (inr q) has = omega (arith, p, q)

split : (a b c : Bool) → ((a && b) && c) ≡ true → (a ≡ true) × (b ≡ true) × (c ≡ true)
split true true true h = (refl, refl, refl)
split true true false h = absurd (true≢false (sym h))
split true false c h = absurd (true≢false (sym h))
split false b c h = absurd (true≢false (sym h))

either : (n : ℕ) → (n == 1 || n == 2) ≡ true → (n ≡ 1) ⊎ (n ≡ 2)
either n h = by_test (n == 1) refl h
  where
    by_test : (b : Bool) → (n == 1) ≡ b → (b || n == 2) ≡ true → (n ≡ 1) ⊎ (n ≡ 2)
    by_test true e h = inl (eqb-true n 1 e)
    by_test false e h = inr (eqb-true n 2 h)

is_either : (n : ℕ) → (n ≡ 1) ⊎ (n ≡ 2) → (n == 1 || n == 2) ≡ true
is_either n (inl e) = ap (λ b. b || n == 2) (eq-eqb n 1 e)
is_either n (inr e) = by_test (n == 1)
  where
    by_test : (b : Bool) → (b || n == 2) ≡ true
    by_test true = refl
    by_test false = eq-eqb n 2 e

-- what is said by soundness
pub record IsSoundText (text : List ℕ) : Type 0 where
  pub gate : gate_of text ≡ 0
  pub format : (format_of text ≡ 1) ⊎ (format_of text ≡ 2)
  pub complement : number_at text 2 + number_at text 6 ≡ 4294967295

pub sound_facts : (text : List ℕ) → is_sound text ≡ true → IsSoundText text
unfolding is_sound
sound_facts text is =
    let parts = split (gate_of text == 0) (format_of text == 1 || format_of text == 2) (number_at text 2 + number_at text 6 == 4294967295) is in
    record {
      gate = eqb-true (gate_of text) 0 parts.0;
      format = either (format_of text) parts.1;
      complement = eqb-true (number_at text 2 + number_at text 6) 4294967295 parts.2;
    }

pub sound_from : (text : List ℕ) → IsSoundText text → is_sound text ≡ true
unfolding is_sound
sound_from text is =
    ap (λ b. (b && (format_of text == 1 || format_of text == 2)) && (number_at text 2 + number_at text 6 == 4294967295)) (eq-eqb (gate_of text) 0 is.gate)
    ∙ ap (λ b. b && (number_at text 2 + number_at text 6 == 4294967295)) (is_either (format_of text) is.format)
    ∙ eq-eqb (number_at text 2 + number_at text 6) 4294967295 is.complement

pub sound_format : (text : List ℕ) → is_sound text ≡ true → (format_of text ≡ 1) ⊎ (format_of text ≡ 2)
sound_format text is = (sound_facts text is).format

pub open_unsound : (text : List ℕ) → gate_of text ≢ 0 → is_sound text ≡ false
unfolding is_sound
open_unsound text not = ap (λ b. (b && (format_of text == 1 || format_of text == 2)) && (number_at text 2 + number_at text 6 == 4294967295)) (ne_eqb (gate_of text) 0 not)

-- a header that is written
pub generation_is : (format g : ℕ) → g < 4294967296 → generation_of (text_of (header_of format g)) ≡ g
generation_is format g small = let e = from_be_bytes-to_be_bytes_4 g small in omega (arith, e)

pub header_sound : (format g : ℕ) → (format ≡ 1) ⊎ (format ≡ 2) → g < 4294967296 → is_sound (text_of (header_of format g)) ≡ true
header_sound format g known small =
    let high = from_be_bytes-to_be_bytes_4 g small in
    let low = from_be_bytes-to_be_bytes_4 (4294967295 - g) (omega arith) in
    sound_from (text_of (header_of format g)) (record { gate = refl; format = known; complement = omega (arith, high, low) })

-- octets of a text
pub text_small : (c : List ℕ) (n k : ℕ) → IsContent c → n < 2048 → get_or (text_at c n) k 0 < 256
text_small c n k whole lt = ⊎_elim
    (λ (low : k < 32). subst (λ (x : ℕ). x < 256) (sym (get_text c n k low)) (whole.octets (32 * n + k)))
    (λ (high : 32 ≤ k). let past = get_or_past (text_at c n) k 0 (let size = length_text c n whole lt in omega (arith, size)) in omega (arith, past))
    (cases_lt k 32)

blank_gate : gate_of blank_text ≢ 0
blank_gate e = absurd (omega (arith, e))

pub blank_unsound : (text : List ℕ) → text ≡ blank_text → is_sound text ≡ false
blank_unsound text is = ap is_sound is ∙ open_unsound blank_text blank_gate

-- ---- steady headers
pub steady_open : (text : List ℕ) → gate_of text < 256 → gate_of text ≢ 0 → IsSteady text
steady_open text small not = record {
  sound = λ torn so is.
      let closed = (sound_facts torn is).gate in
      let le : gate_of text ≤ gate_of torn = rises (gate_of text) (gate_of torn) small (so.each 31) in
      let zero_gate : gate_of text ≡ 0 = omega (arith, closed, le) in
      absurd (not zero_gate);
}

pub steady_blank : (text : List ℕ) → text ≡ blank_text → IsSteady text
steady_blank text is = subst IsSteady (sym is) (steady_open blank_text (omega arith) blank_gate)

module _ (text : List ℕ) (small : (k : ℕ) → get_or text k 0 < 256) where
  pub steady_sound : is_sound text ≡ true → IsSteady text
  steady_sound is = record {
    sound = λ torn so now.
        let before = sound_facts text is in
        let after = sound_facts torn now in
        let sum = before.complement in
        let sum' = after.complement in
        let g2 : get_or text 2 0 ≤ get_or torn 2 0 = rises _ _ (small 2) (so.each 2) in
        let g3 : get_or text 3 0 ≤ get_or torn 3 0 = rises _ _ (small 3) (so.each 3) in
        let g4 : get_or text 4 0 ≤ get_or torn 4 0 = rises _ _ (small 4) (so.each 4) in
        let g5 : get_or text 5 0 ≤ get_or torn 5 0 = rises _ _ (small 5) (so.each 5) in
        let g6 : get_or text 6 0 ≤ get_or torn 6 0 = rises _ _ (small 6) (so.each 6) in
        let g7 : get_or text 7 0 ≤ get_or torn 7 0 = rises _ _ (small 7) (so.each 7) in
        let g8 : get_or text 8 0 ≤ get_or torn 8 0 = rises _ _ (small 8) (so.each 8) in
        let g9 : get_or text 9 0 ≤ get_or torn 9 0 = rises _ _ (small 9) (so.each 9) in
        record {
          sound = is;
          generation = omega (arith, sum, sum');
          format = format_same (format_of text) (format_of torn) before.format after.format (covers (format_of text) (format_of torn) (small 1) (so.each 1));
        };
  }

  -- what an erase that was cut leaves of a steady header is steady
  pub steady_torn : (torn : List ℕ) → ((k : ℕ) → get_or torn k 0 < 256) → IsSteady text → IsTorn text blank_text torn → IsSteady torn
  steady_torn torn small' steady so = record {
    sound = λ last up now.
        let was = steady.sound last (record { size = up.size ∙ so.size; each = λ o. between_up (get_or text o 0) (get_or blank_text o 0) (get_or torn o 0) (get_or last o 0) (so.each o) (up.each o) }) now in
        let before = sound_facts text was.sound in
        let after = sound_facts last now in
        let sum = before.complement in
        let sum' = after.complement in
        let gate = after.gate in
        let same = was.format in
        let l1 : format_of text ≤ format_of torn = rises _ _ (small 1) (so.each 1) in
        let h1 : format_of torn ≤ format_of last = rises _ _ (small' 1) (up.each 1) in
        let form : format_of torn ≡ format_of text = omega (arith, same, l1, h1) in
        let h31 : gate_of torn ≤ gate_of last = rises _ _ (small' 31) (up.each 31) in
        let l2 : get_or text 2 0 ≤ get_or torn 2 0 = rises _ _ (small 2) (so.each 2) in
        let l3 : get_or text 3 0 ≤ get_or torn 3 0 = rises _ _ (small 3) (so.each 3) in
        let l4 : get_or text 4 0 ≤ get_or torn 4 0 = rises _ _ (small 4) (so.each 4) in
        let l5 : get_or text 5 0 ≤ get_or torn 5 0 = rises _ _ (small 5) (so.each 5) in
        let l6 : get_or text 6 0 ≤ get_or torn 6 0 = rises _ _ (small 6) (so.each 6) in
        let l7 : get_or text 7 0 ≤ get_or torn 7 0 = rises _ _ (small 7) (so.each 7) in
        let l8 : get_or text 8 0 ≤ get_or torn 8 0 = rises _ _ (small 8) (so.each 8) in
        let l9 : get_or text 9 0 ≤ get_or torn 9 0 = rises _ _ (small 9) (so.each 9) in
        let h2 : get_or torn 2 0 ≤ get_or last 2 0 = rises _ _ (small' 2) (up.each 2) in
        let h3 : get_or torn 3 0 ≤ get_or last 3 0 = rises _ _ (small' 3) (up.each 3) in
        let h4 : get_or torn 4 0 ≤ get_or last 4 0 = rises _ _ (small' 4) (up.each 4) in
        let h5 : get_or torn 5 0 ≤ get_or last 5 0 = rises _ _ (small' 5) (up.each 5) in
        let h6 : get_or torn 6 0 ≤ get_or last 6 0 = rises _ _ (small' 6) (up.each 6) in
        let h7 : get_or torn 7 0 ≤ get_or last 7 0 = rises _ _ (small' 7) (up.each 7) in
        let h8 : get_or torn 8 0 ≤ get_or last 8 0 = rises _ _ (small' 8) (up.each 8) in
        let h9 : get_or torn 9 0 ≤ get_or last 9 0 = rises _ _ (small' 9) (up.each 9) in
        record {
          sound = sound_from torn (record {
            gate = omega (arith, gate, h31);
            format = subst (λ (f : ℕ). (f ≡ 1) ⊎ (f ≡ 2)) (sym form) before.format;
            complement = omega (arith, sum, sum');
          });
          generation = omega (arith, sum, sum');
          format = was.format ∙ sym form;
        };
  }
    where
      between_up : (a n b x : ℕ) → IsBetween a n b → IsBetween b n x → IsBetween a n x
      between_up a n b x low high j = ⊎_elim
          (λ (e : bit_at x j ≡ bit_at b j). ⊎_elim (λ (d : bit_at b j ≡ bit_at a j). inl (e ∙ d)) (λ (d : bit_at b j ≡ bit_at n j). inr (e ∙ d)) (low j))
          (λ (e : bit_at x j ≡ bit_at n j). inr e)
          (high j)
