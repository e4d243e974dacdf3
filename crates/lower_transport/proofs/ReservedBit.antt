-- The first bit of the header of a control message's segment is reserved: whatever it is, the fields behind it are the same.
use Rattle.std.proofs.Common.{◌≡◌, ℕ, ◌+◌, ◌%◌, ◌^◌, ◌<◌, ◌≤◌, Bool, true, false, nat_le, List, [], ◌∷◌, ◌++◌, length, get_or, ap, arith, cond, drop}
use Rattle.std.proofs.lemmas.Bool.Decides.{nat_tests}
use Rattle.mesh_base.specs.declared.lower.Lower.{Lower}
use Rattle.mesh_base.specs.declared.lower.Lower.TheVariants.{Access, AccessPart, Control, ControlPart}
use Rattle.layer_definitions.specs.Lower.{as_read, IsPiece, lower_text, ReadsLower, segmentation}

-- the fields that the octets after the first one have, but for the reserved bit
pub record HasSegment (full : ℕ) (rest : List ℕ) : Type 0 where
  pub szmic : Bool
  pub seq_zero : ℕ
  pub seg_o : ℕ
  pub seg_n : ℕ
  pub piece : List ℕ
  pub octets : rest ≡ segmentation szmic seq_zero seg_o seg_n ++ piece
  pub seq_zero_bits : seq_zero < 2 ^ 13
  pub seg_n_bits : seg_n < 2 ^ 5
  pub is_piece : IsPiece full seg_o seg_n piece

-- the three octets of a header with the bit as it stands, from those with 0 in its place
with_bit : (b seq_zero seg_o seg_n : ℕ) → b < 256 → seq_zero < 2 ^ 13 → seg_o < 2 ^ 5 → seg_n < 2 ^ 5 → get_or (segmentation false seq_zero seg_o seg_n) 0 0 ≡ b % 128
    → (b ≡ get_or (segmentation (nat_le 128 b) seq_zero seg_o seg_n) 0 0)
    × (get_or (segmentation false seq_zero seg_o seg_n) 1 0 ≡ get_or (segmentation (nat_le 128 b) seq_zero seg_o seg_n) 1 0)
    × (get_or (segmentation false seq_zero seg_o seg_n) 2 0 ≡ get_or (segmentation (nat_le 128 b) seq_zero seg_o seg_n) 2 0)
with_bit b z o n h hz ho hn e = (grind (arith, nat_tests), grind (arith, nat_tests), grind (arith, nat_tests))

joined : (b x y z : ℕ) (y' z' : ℕ) (more piece : List ℕ) → b ≡ x → y ≡ y' → z ≡ z' → y ∷ z ∷ piece ≡ more → b ∷ more ≡ x ∷ y' ∷ z' ∷ piece
joined b x y z y' z' more piece e f g h = cc

in_segment : (first b : ℕ) (more : List ℕ) (opcode seq_zero seg_o seg_n : ℕ) (piece : List ℕ) → 2 ^ 7 ≤ first → b < 256 → seq_zero < 2 ^ 13 → seg_n < 2 ^ 5 → IsPiece 8 seg_o seg_n piece
    → (2 ^ 7 + opcode) ∷ segmentation false seq_zero seg_o seg_n ++ piece ≡ as_read true (first ∷ b ∷ more) → b ∷ more ≡ segmentation (nat_le 128 b) seq_zero seg_o seg_n ++ piece
in_segment first b more opcode z o n piece h k hz hn p e =
    let second : get_or (segmentation false z o n) 0 0 ≡ cond (nat_le 128 first) (b % 128) b = ap (λ (t : List ℕ). get_or t 1 0) e in
    let low : get_or (segmentation false z o n) 0 0 ≡ b % 128 = grind (arith, nat_tests) in
    let rest = ap (drop 2) e in
    let same = with_bit b z o n k hz (omega (arith, p.in_order)) hn low in
    joined b _ _ _ _ _ more piece same.0 same.1 same.2 rest

pub has_segment : (first : ℕ) (rest : List ℕ) (l : Lower) → 2 ^ 7 ≤ first → get_or rest 0 0 < 256 → ReadsLower true (first ∷ rest) l → HasSegment 8 rest
unfolding lower_text
has_segment first rest (Access akf aid upper) h k r = absurd (cc)
has_segment first rest (AccessPart akf aid szmic seq_zero seg_o seg_n piece) h k r = absurd (cc)
has_segment first [] (Control opcode params) h k r = absurd (let e = ap (λ (t : List ℕ). get_or t 0 0) r.text in omega arith)
has_segment first (b ∷ more) (Control opcode params) h k r = absurd (let e = ap (λ (t : List ℕ). get_or t 0 0) r.text in omega arith)
has_segment first [] (ControlPart opcode seq_zero seg_o seg_n piece) h k r = absurd (let e = ap (λ (t : List ℕ). length t) r.text in omega arith)
has_segment first (b ∷ more) (ControlPart opcode seq_zero seg_o seg_n piece) h k r =
    record {
      szmic = nat_le 128 b;
      seq_zero = seq_zero;
      seg_o = seg_o;
      seg_n = seg_n;
      piece = piece;
      seq_zero_bits = r.fits.1;
      seg_n_bits = r.fits.2;
      is_piece = r.fits.3;
      octets = in_segment first b more opcode seq_zero seg_o seg_n piece h k r.fits.1 r.fits.2 r.fits.3 r.text;
    }
