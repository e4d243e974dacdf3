-- What the steps of reading a network PDU go by.
use Rattle.std.specs.Prelude.{◌≡◌, ℕ, ◌^◌, nat_le, Bool, if◌then◌else◌, List, slice_index}
use Rattle.mesh_base.specs.declared.fields.NetFields.{NetFields}
use Rattle.mesh_base.specs.declared.fields.NetMaterial.{NetMaterial}
use Rattle.layer_definitions.specs.Network.{HasPdu, IsInWidths, net_text, network_header, sealed_part}

-- CTL, as a header has it
abbrev pub has_control_bit : List ℕ → Bool
has_control_bit header = nat_le (2 ^ 7) (slice_index header 0)

-- how many octets DST and the transport PDU have at most
abbrev pub most_of : Bool → ℕ
most_of ctl = if ctl then 14 else 18

-- these fields have this IV Index, this header, and this sealed part
pub record IsSealedAs (m : NetMaterial) (iv : ℕ) (header sealed : List ℕ) (f : NetFields) : Type 0 where
  pub has_pdu : HasPdu f
  pub in_widths : IsInWidths f
  pub iv_is : f.iv ≡ iv
  pub header_is : network_header f ≡ header
  pub sealed_is : sealed_part m f ≡ sealed

-- these fields have this IV Index and these octets
pub record IsTextOf (m : NetMaterial) (iv : ℕ) (octets : List ℕ) (f : NetFields) : Type 0 where
  pub has_pdu : HasPdu f
  pub in_widths : IsInWidths f
  pub iv_is : f.iv ≡ iv
  pub text : net_text m f ≡ octets
