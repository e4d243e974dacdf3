-- The fields of a text that is written piece by piece.
use Rattle.std.proofs.Common.{◌≡◌, ℕ, zero, suc, ◌+◌, ◌/◌, ◌%◌, ◌^◌, ◌==◌, nat_lt, Bool, true, false, if◌then◌else◌, List, [], ◌∷◌, ◌++◌, refl, sym, ap, ◌∙◌, append_assoc, inl, inr, arith, slice_index}
use Rattle.std.proofs.lemmas.Bool.{cases_Bool}
use Rattle.std.proofs.lemmas.Bool.Decides.{nat_tests}
use Rattle.std.proofs.lemmas.List.Splits.{slice_split-cons_yes, slice_split-cons_no}
use Rattle.std.specs.Fmt.{decimal, digits, digits_onto, digit_glyph}
use Rattle.std.specs.List.{onto_first}
use Rattle.hex.specs.Hex.{lower_digits, encode_with, encode_lower}
use Rattle.report_definitions.specs.Text.{hex_digits}
use Rattle.report_reader.specs.Forms.{is_gap, fields_of}

-- nothing parts these octets
abbrev pub is_whole : List ℕ → Bool
is_whole [] = true
is_whole (b ∷ bs) = if is_gap b then false else is_whole bs

pub whole_cons : (b : ℕ) (bs : List ℕ) → is_gap b ≡ false → is_whole bs ≡ true → is_whole (b ∷ bs) ≡ true
whole_cons b bs e h = rw e h

whole_head : (b : ℕ) (bs : List ℕ) → is_whole (b ∷ bs) ≡ true → is_gap b ≡ false
whole_head b bs h =
    elim (cases_Bool (is_gap b)) [
      | inl t ↦ let no : false ≡ true = rw t at h in cc
      | inr f ↦ f
    ]

whole_tail : (b : ℕ) (bs : List ℕ) → is_whole (b ∷ bs) ≡ true → is_whole bs ≡ true
whole_tail b bs h = rw (whole_head b bs h) at h

-- a field stands before the other ones
pub field_first : (w t : List ℕ) (ps : List (List ℕ)) → is_whole w ≡ true → fields_of t ≡ [] ∷ ps → fields_of (w ++ t) ≡ w ∷ ps
field_first [] t ps h e = e
field_first (x ∷ w) t ps h e =
    slice_split-cons_no is_gap x (w ++ t) (whole_head x w h) ∙ ap (onto_first x) (field_first w t ps (whole_tail x w h) e)

-- octets, the first of which parts, add fields to those of what stands behind them
pub record Adds (x : List ℕ) (fs : List (List ℕ)) : Type 0 where
  pub fields : (t : List ℕ) (ps : List (List ℕ)) → fields_of t ≡ [] ∷ ps → fields_of (x ++ t) ≡ [] ∷ (fs ++ ps)

pub adds_none : Adds [] []
adds_none = record { fields = λ t ps e. e }

pub adds_field : (g : ℕ) (w : List ℕ) → is_gap g ≡ true → is_whole w ≡ true → Adds (g ∷ w) (w ∷ [])
adds_field g w gap whole = record {
  fields = λ t ps e. slice_split-cons_yes is_gap g (w ++ t) gap ∙ ap (λ (qs : List (List ℕ)). [] ∷ qs) (field_first w t ps whole e);
}

-- one text behind another
infixl 10 ◌⊕◌
pub ◌⊕◌ : {x y : List ℕ} {fs gs : List (List ℕ)} → Adds x fs → Adds y gs → Adds (x ++ y) (fs ++ gs)
◌⊕◌ {x} {y} {fs} {gs} a b = record {
  fields = λ t ps e.
      ap fields_of (append_assoc x y t) ∙ a.fields (y ++ t) (gs ++ ps) (b.fields t ps e)
      ∙ ap (λ (qs : List (List ℕ)). [] ∷ qs) (sym (append_assoc fs gs ps));
}

-- a text whose last piece was written in two
pub adds_joined : (x y z : List ℕ) (fs : List (List ℕ)) → Adds (x ++ (y ++ z)) fs → Adds (x ++ y ++ z) fs
adds_joined x y z fs a = rw append_assoc a

-- Digits part nothing.

whole_index : (xs : List ℕ) (i : ℕ) → is_whole xs ≡ true → is_gap (slice_index xs i) ≡ false
whole_index [] i h = refl
whole_index (x ∷ xs) zero h = whole_head x xs h
whole_index (x ∷ xs) (suc i) h = whole_index xs i (whole_tail x xs h)

lower_whole : (i : ℕ) → is_gap (slice_index lower_digits i) ≡ false
lower_whole i = whole_index lower_digits i refl

pub whole_digits : (k n : ℕ) → is_whole (hex_digits k n) ≡ true
unfolding hex_digits
whole_digits zero n = refl
whole_digits (suc k) n = whole_cons (slice_index lower_digits (n / 16 ^ k % 16)) (hex_digits k n) (lower_whole (n / 16 ^ k % 16)) (whole_digits k n)

pub whole_octets : (xs : List ℕ) → is_whole (encode_lower xs) ≡ true
unfolding encode_with
whole_octets [] = refl
whole_octets (x ∷ xs) =
    let low = whole_cons (slice_index lower_digits (x % 16)) (encode_lower xs) (lower_whole (x % 16)) (whole_octets xs) in
    whole_cons (slice_index lower_digits (x / 16)) (slice_index lower_digits (x % 16) ∷ encode_lower xs) (lower_whole (x / 16)) low

glyph_whole : (d : ℕ) → is_gap (digit_glyph false d) ≡ false
glyph_whole d =
    elim (nat_lt d 10) as (λ (b : Bool). is_gap (if b then 48 + d else 87 + d) ≡ false) [
      | true ↦ grind (arith, nat_tests)
      | false ↦ grind (arith, nat_tests)
    ]

whole_onto : (k n : ℕ) (acc : List ℕ) → is_whole acc ≡ true → is_whole (digits_onto k 10 false n acc) ≡ true
whole_onto zero n acc h = h
whole_onto (suc k) n acc h =
    let more : is_whole (digit_glyph false (n % 10) ∷ acc) ≡ true = whole_cons (digit_glyph false (n % 10)) acc (glyph_whole (n % 10)) h in
    let rest : is_whole (digits_onto k 10 false (n / 10) (digit_glyph false (n % 10) ∷ acc)) ≡ true = whole_onto k (n / 10) (digit_glyph false (n % 10) ∷ acc) more in
    elim (n / 10 == 0) as (λ (b : Bool). is_whole (if b then digit_glyph false (n % 10) ∷ acc else digits_onto k 10 false (n / 10) (digit_glyph false (n % 10) ∷ acc)) ≡ true) [
      | true ↦ more
      | false ↦ rest
    ]

pub whole_decimal : (n : ℕ) → is_whole (decimal n) ≡ true
unfolding digits
whole_decimal n = whole_onto 64 n [] refl
