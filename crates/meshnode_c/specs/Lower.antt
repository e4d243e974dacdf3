-- Lower transport PDUs as C gives them (Mesh Profile 1.0.1, section 3.5.2).
use Rattle.std.specs.Prelude.{◌≡◌, ℕ, ◌<◌, ◌≤◌, ◌==◌, false, IsFalse, IsTrue, if◌then◌else◌, List, length}
use Rattle.mesh_base.specs.declared.control.Acknowledgment.{Acknowledgment}
use Rattle.mesh_base.specs.declared.lower.Lower.{Lower}
use Rattle.mesh_base.specs.declared.lower.Lower.TheVariants.{Access, Control, AccessPart, ControlPart}
use Rattle.meshnode_c.specs.declared.lower.MeshnodeAcknowledgment.{MeshnodeAcknowledgment}
use Rattle.meshnode_c.specs.declared.lower.MeshnodeLower.{MeshnodeLower}

-- the PDU of these fields and octets: a segment or not, of a control message or of an access message
abbrev pub lower_of : MeshnodeLower → List ℕ → Lower
lower_of head octets =
    if head.ctl
    then (
    if head.seg then ControlPart head.opcode head.seq_zero head.seg_o head.seg_n octets
    else Control head.opcode octets
    )
    else (
    if head.seg then AccessPart head.akf head.aid head.szmic head.seq_zero head.seg_o head.seg_n octets
    else Access head.akf head.aid octets
    )

-- its octets: the upper transport PDU, the parameters, or those of the segment
abbrev pub octets_in : Lower → List ℕ
octets_in (Access akf aid upper) = upper
octets_in (Control opcode params) = params
octets_in (AccessPart akf aid szmic seq_zero seg_o seg_n piece) = piece
octets_in (ControlPart opcode seq_zero seg_o seg_n piece) = piece

-- The fields that a PDU of this kind hasn't are 0.
abbrev pub IsPlain : MeshnodeLower → Type 0
IsPlain head =
    (IsTrue head.ctl → (head.akf ≡ false) × (head.szmic ≡ false) × (head.aid ≡ 0))
    × (IsFalse head.ctl → head.opcode ≡ 0)
    × (IsFalse head.seg
    → (head.szmic ≡ false) × (head.seg_o ≡ 0) × (head.seg_n ≡ 0) × (head.seq_zero ≡ 0))

-- how many octets such a PDU has at most, and at least: each segment but the last is full
abbrev pub most_octets : MeshnodeLower → ℕ
most_octets head =
    if head.seg then (if head.ctl then 8 else 12) else (if head.ctl then 11 else 15)

abbrev pub least_octets : MeshnodeLower → ℕ
least_octets head =
    if head.seg then (if head.seg_o == head.seg_n then 1 else most_octets head)
    else (if head.ctl then 0 else 5)

abbrev pub acknowledgment_of : MeshnodeAcknowledgment → Acknowledgment
acknowledgment_of a = record { obo = a.obo; seq_zero = a.seq_zero; block_ack = a.block_ack }
