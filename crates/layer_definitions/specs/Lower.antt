-- Lower transport PDUs (Mesh Profile 1.0.1). Section numbers are the profile's.
use Rattle.std.specs.Prelude.{◌≡◌, ℕ, ◌+◌, ◌-◌, ◌*◌, ◌/◌, ◌%◌, ◌^◌, ◌<◌, ◌≤◌, ◌==◌, ◌&&◌, nat_le, nat_lt, Bool, true, false, IsFalse, if◌then◌else◌, List, [], ◌∷◌, ◌++◌, length, take, drop, Option, Some, None}
use Rattle.cipher_definitions.specs.Octets.{two_octets, three_octets, four_octets}
use Rattle.mesh_base.specs.declared.lower.Lower.{Lower}
use Rattle.mesh_base.specs.declared.lower.Lower.TheVariants.{Access, Control, AccessPart, ControlPart}
use Rattle.mesh_base.specs.declared.pair.Pair.{Pair}

-- AKF in bit 6 and AID in the six bits below (3.5.2.1)
abbrev pub akf_and_aid : Bool → ℕ → ℕ
akf_and_aid akf aid = (if akf then 2 ^ 6 else 0) + aid

-- SZMIC, SeqZero, SegO and SegN in 1, 13, 5 and 5 bits; a control message has 0 in the place of SZMIC (3.5.2.2, 3.5.2.4)
abbrev pub segmentation : Bool → ℕ → ℕ → ℕ → List ℕ
segmentation szmic seq_zero seg_o seg_n =
    three_octets ((if szmic then 2 ^ 23 else 0) + seq_zero * 2 ^ 10 + seg_o * 2 ^ 5 + seg_n)

-- the octets of a lower transport PDU, with SEG in bit 7 of the first (3.5.2)
unfoldable pub lower_text : Lower → List ℕ
lower_text (Access akf aid upper) = akf_and_aid akf aid ∷ upper
lower_text (Control opcode params) = opcode ∷ params
lower_text (AccessPart akf aid szmic seq_zero seg_o seg_n piece) =
    (2 ^ 7 + akf_and_aid akf aid) ∷ segmentation szmic seq_zero seg_o seg_n ++ piece
lower_text (ControlPart opcode seq_zero seg_o seg_n piece) =
    (2 ^ 7 + opcode) ∷ segmentation false seq_zero seg_o seg_n ++ piece

-- a piece of at most so many octets, where each piece but the last is full
pub record IsPiece (size seg_o seg_n : ℕ) (piece : List ℕ) : Type 0 where
  pub in_order : seg_o ≤ seg_n
  pub least : 1 ≤ length piece
  pub most : length piece ≤ size
  pub full : seg_o < seg_n → length piece ≡ size

-- The fields are within their widths, AID is 0 without an application key, and the octets are as many as the PDU has room for.
abbrev pub Fits : Lower → Type 0
Fits (Access akf aid upper) = (aid < 2 ^ 6) × (IsFalse akf → aid ≡ 0) × (5 ≤ length upper) × (length upper ≤ 15)
Fits (Control opcode params) = (opcode < 2 ^ 7) × (length params ≤ 11)
Fits (AccessPart akf aid szmic seq_zero seg_o seg_n piece) =
    (aid < 2 ^ 6) × (IsFalse akf → aid ≡ 0) × (seq_zero < 2 ^ 13) × (seg_n < 2 ^ 5) × IsPiece 12 seg_o seg_n piece
Fits (ControlPart opcode seq_zero seg_o seg_n piece) =
    (opcode < 2 ^ 7) × (seq_zero < 2 ^ 13) × (seg_n < 2 ^ 5) × IsPiece 8 seg_o seg_n piece

-- whether it is a control message
abbrev pub is_control : Lower → Bool
is_control (Access akf aid upper) = false
is_control (Control opcode params) = true
is_control (AccessPart akf aid szmic seq_zero seg_o seg_n piece) = false
is_control (ControlPart opcode seq_zero seg_o seg_n piece) = true

-- Bits that have no meaning are read as zeros: AID without an application key (3.5.2.1), and the bit before SeqZero in a segment of a
-- control message (3.5.2.4).
abbrev pub without_aid : ℕ → ℕ
without_aid octet = if octet / 2 ^ 6 % 2 == 0 then octet / 2 ^ 6 * 2 ^ 6 else octet

abbrev pub as_read : Bool → List ℕ → List ℕ
as_read false [] = []
as_read false (first ∷ rest) = without_aid first ∷ rest
as_read true [] = []
as_read true (first ∷ []) = first ∷ []
as_read true (first ∷ second ∷ rest) = first ∷ (if nat_le (2 ^ 7) first then second % 2 ^ 7 else second) ∷ rest

-- A transport PDU, of a control message or not, reads as this lower transport PDU.
pub record ReadsLower (ctl : Bool) (tpdu : List ℕ) (l : Lower) : Type 0 where
  pub kind : is_control l ≡ ctl
  pub fits : Fits l
  pub text : lower_text l ≡ as_read ctl tpdu

-- SeqAuth of a segment with this pair: its IV Index with the greatest number up to SEQ whose low 13 bits are SeqZero, if there is one
-- (3.5.3.1)
unfoldable pub seq_auth : Pair → ℕ → Option Pair
seq_auth p seq_zero =
    if nat_lt seq_zero (2 ^ 13) && nat_le seq_zero p.seq
    then Some (record { iv = p.iv; seq = p.seq - (p.seq - seq_zero) % 2 ^ 13 }) else None

-- The segments of an access message's upper transport PDU, each of 12 octets but the last (3.5.3).

-- the number of the last one
abbrev pub last_segment : List ℕ → ℕ
last_segment upper = (length upper - 1) / 12

-- the segment with number seg_o, for SeqAuth with this SEQ and a TransMIC of 4 octets
abbrev pub segment : Bool → ℕ → ℕ → List ℕ → ℕ → Lower
segment akf aid seq upper seg_o =
    AccessPart akf aid false (seq % 2 ^ 13) seg_o (last_segment upper) (take 12 (drop (12 * seg_o) upper))

-- The Segment Acknowledgment message: opcode 00 with OBO 0, SeqZero, two bits 0 and BlockAck (3.5.2.3.1).
abbrev pub acknowledgment : ℕ → ℕ → Lower
acknowledgment seq_zero block = Control 0 (two_octets (seq_zero * 2 ^ 2) ++ four_octets block)
