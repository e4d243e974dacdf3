-- A PDU is found from its text.
use Rattle.std.proofs.Common.{◌≡◌, ℕ, ◌+◌, ◌*◌, ◌/◌, ◌%◌, ◌^◌, ◌<◌, ◌⊎◌, ◌==◌, inl, inr, Bool, true, false, IsFalse, nat_le, List, [], ◌∷◌, ◌++◌, get_or, refl, sym, ◌∙◌, ap, arith, cond, drop}
use Rattle.std.proofs.lemmas.Bool.Decides.{nat_tests}
use Rattle.mesh_base.specs.declared.lower.Lower.{Lower}
use Rattle.mesh_base.specs.declared.lower.Lower.TheVariants.{Access, AccessPart, Control, ControlPart}
use Rattle.layer_definitions.proofs.OctetLaws.{three_octets_once}
use Rattle.layer_definitions.specs.Lower.{akf_and_aid, Fits, is_control, IsPiece, lower_text, ReadsLower, segmentation}

abbrev IsKey : Bool → ℕ → Type 0
IsKey akf aid = (aid < 2 ^ 6) × (IsFalse akf → aid ≡ 0)

key_small : (akf : Bool) (aid : ℕ) → IsKey akf aid → akf_and_aid akf aid < 2 ^ 7
key_small true aid h = omega arith
key_small false aid h = omega arith

key_once : (a b : Bool) (x y : ℕ) → IsKey a x → IsKey b y → akf_and_aid a x ≡ akf_and_aid b y → (a ≡ b) × (x ≡ y)
key_once true true x y h k e = (refl, omega arith)
key_once false false x y h k e = (refl, omega arith)
key_once true false x y h k e = absurd (omega arith)
key_once false true x y h k e = absurd (omega arith)

abbrev IsSegment : ℕ → ℕ → ℕ → ℕ → List ℕ → Type 0
IsSegment full seq_zero seg_o seg_n piece = (seq_zero < 2 ^ 13) × (seg_n < 2 ^ 5) × IsPiece full seg_o seg_n piece

-- two headers have the same fields, and the same octets stand behind them
record SameSegment (s t : Bool) (z z' o o' n n' : ℕ) (u v : List ℕ) : Type 0 where
  szmic : s ≡ t
  seq_zero : z ≡ z'
  seg_o : o ≡ o'
  seg_n : n ≡ n'
  piece : u ≡ v

-- the number that stands in a header
abbrev header_number : Bool → ℕ → ℕ → ℕ → ℕ
header_number s z o n = cond s (2 ^ 23) 0 + z * 2 ^ 10 + o * 2 ^ 5 + n

fields_once : (s t : Bool) (z z' o o' n n' : ℕ) → z < 2 ^ 13 → z' < 2 ^ 13 → o < 2 ^ 5 → o' < 2 ^ 5 → n < 2 ^ 5 → n' < 2 ^ 5
    → header_number s z o n ≡ header_number t z' o' n' → (s ≡ t) × (z ≡ z') × (o ≡ o') × (n ≡ n')
fields_once true true z z' o o' n n' h h' k k' l l' e = (refl, omega arith, omega arith, omega arith)
fields_once false false z z' o o' n n' h h' k k' l l' e = (refl, omega arith, omega arith, omega arith)
fields_once true false z z' o o' n n' h h' k k' l l' e = absurd (omega arith)
fields_once false true z z' o o' n n' h h' k k' l l' e = absurd (omega arith)

number_small : (s : Bool) (z o n : ℕ) → z < 2 ^ 13 → o < 2 ^ 5 → n < 2 ^ 5 → header_number s z o n < 2 ^ 24
number_small true z o n h k l = omega arith
number_small false z o n h k l = omega arith

segment_once : (full : ℕ) (s t : Bool) (z z' o o' n n' : ℕ) (u v : List ℕ) → IsSegment full z o n u → IsSegment full z' o' n' v
    → segmentation s z o n ++ u ≡ segmentation t z' o' n' ++ v → SameSegment s t z z' o o' n n' u v
segment_once full s t z z' o o' n n' u v (h, l, p) (k, m, q) e =
    let below : o < 2 ^ 5 = omega (arith, p.in_order) in
    let below' : o' < 2 ^ 5 = omega (arith, q.in_order) in
    let number : header_number s z o n ≡ header_number t z' o' n' =
    three_octets_once _ _ (number_small s z o n h below l) (number_small t z' o' n' k below' m)
    (ap (λ (l : List ℕ). get_or l 0 0) e) (ap (λ (l : List ℕ). get_or l 1 0) e) (ap (λ (l : List ℕ). get_or l 2 0) e) in
    let fields = fields_once s t z z' o o' n n' h k below below' l m number in
    record { szmic = fields.0; seq_zero = fields.1; seg_o = fields.2; seg_n = fields.3; piece = ap (drop 3) e }

-- two PDUs of one kind with one text are one PDU
text_once : (l m : Lower) → is_control l ≡ is_control m → Fits l → Fits m → lower_text l ≡ lower_text m → l ≡ m
unfolding lower_text
text_once (Access a x u) (Access b y v) c h k e =
    let key = key_once a b x y (h.0, h.1) (k.0, k.1) (ap (λ (t : List ℕ). get_or t 0 0) e) in let rest = ap (drop 1) e in cc
text_once (Control x u) (Control y v) c h k e = let first = ap (λ (t : List ℕ). get_or t 0 0) e in let rest = ap (drop 1) e in cc
text_once (AccessPart a x s z o n u) (AccessPart b y t z' o' n' v) c h k e =
    let low : akf_and_aid a x ≡ akf_and_aid b y = let first = ap (λ (t : List ℕ). get_or t 0 0) e in omega arith in
    let key = key_once a b x y (h.0, h.1) (k.0, k.1) low in
    let same = segment_once 12 s t z z' o o' n n' u v (h.2, h.3, h.4) (k.2, k.3, k.4) (ap (drop 1) e) in cc
text_once (ControlPart x z o n u) (ControlPart y z' o' n' v) c h k e =
    let low : x ≡ y = let first = ap (λ (t : List ℕ). get_or t 0 0) e in omega arith in
    let same = segment_once 8 false false z z' o o' n n' u v (h.1, h.2, h.3) (k.1, k.2, k.3) (ap (drop 1) e) in cc
text_once (Access a x u) (AccessPart b y t z' o' n' v) c h k e =
    absurd (let first = ap (λ (t : List ℕ). get_or t 0 0) e in let small = key_small a x (h.0, h.1) in omega arith)
text_once (AccessPart b y t z' o' n' v) (Access a x u) c h k e =
    absurd (let first = ap (λ (t : List ℕ). get_or t 0 0) e in let small = key_small a x (k.0, k.1) in omega arith)
text_once (Control x u) (ControlPart y z' o' n' v) c h k e = absurd (let first = ap (λ (t : List ℕ). get_or t 0 0) e in omega arith)
text_once (ControlPart y z' o' n' v) (Control x u) c h k e = absurd (let first = ap (λ (t : List ℕ). get_or t 0 0) e in omega arith)
text_once (Access a x u) (Control y v) c h k e = absurd (cc)
text_once (Access a x u) (ControlPart y z' o' n' v) c h k e = absurd (cc)
text_once (Control y v) (Access a x u) c h k e = absurd (cc)
text_once (Control y v) (AccessPart b x t z' o' n' u) c h k e = absurd (cc)
text_once (AccessPart b x t z' o' n' u) (Control y v) c h k e = absurd (cc)
text_once (AccessPart b x t z' o' n' u) (ControlPart y z o n v) c h k e = absurd (cc)
text_once (ControlPart y z o n v) (Access a x u) c h k e = absurd (cc)
text_once (ControlPart y z o n v) (AccessPart b x t z' o' n' u) c h k e = absurd (cc)

pub one : (ctl : Bool) (tpdu : List ℕ) (l m : Lower) → ReadsLower ctl tpdu l → ReadsLower ctl tpdu m → l ≡ m
one ctl tpdu l m r s = text_once l m (r.kind ∙ sym s.kind) r.fits s.fits (r.text ∙ sym s.text)

-- Bits without meaning are 0 in the text of a PDU.
first_read : (a : Bool) (x first : ℕ) → IsKey a x → (first ≡ akf_and_aid a x) ⊎ (first ≡ 2 ^ 7 + akf_and_aid a x)
    → first ≡ cond ((first / 64 % 2) == 0) (first / 64 * 64) first
first_read true x first h k = grind (arith, nat_tests)
first_read false x first h k = grind (arith, nat_tests)

second_read : (first second : ℕ) → (second < 128) ⊎ (first < 128) → second ≡ cond (nat_le 128 first) (second % 128) second
second_read first second h = grind (arith, nat_tests)

header_small : (z o n : ℕ) → z < 2 ^ 13 → o < 2 ^ 5 → n < 2 ^ 5 → header_number false z o n / 65536 % 256 < 128
header_small z o n h k l = omega arith

pub itself : (l : Lower) → Fits l → ReadsLower (is_control l) (lower_text l) l
unfolding lower_text
itself (Access akf aid upper) h =
    record { kind = refl; fits = h; text = ap (λ (x : ℕ). x ∷ upper) (first_read akf aid (akf_and_aid akf aid) (h.0, h.1) (inl refl)) }
itself (Control opcode []) h = record { kind = refl; fits = h; text = refl }
itself (Control opcode (b ∷ params)) h =
    record { kind = refl; fits = h; text = ap (λ (x : ℕ). opcode ∷ x ∷ params) (second_read opcode b (inr h.0)) }
itself (AccessPart akf aid szmic seq_zero seg_o seg_n piece) h =
    let first = first_read akf aid (2 ^ 7 + akf_and_aid akf aid) (h.0, h.1) (inr refl) in
    record { kind = refl; fits = h; text = ap (λ (x : ℕ). x ∷ segmentation szmic seq_zero seg_o seg_n ++ piece) first }
itself (ControlPart opcode seq_zero seg_o seg_n piece) (low, z, n, p) =
    let second = second_read (128 + opcode) _ (inl (header_small seq_zero seg_o seg_n z (omega (arith, p.in_order)) n)) in
    record {
      kind = refl;
      fits = (low, z, n, p);
      text = ap (λ (x : ℕ). (128 + opcode) ∷ x ∷ drop 1 (segmentation false seq_zero seg_o seg_n) ++ piece) second;
    }
