-- What a result tells of the fields of its network PDU, field by field.
use Rattle.std.specs.Prelude.{◌≡◌, ℕ, Bool, true, false, List, Some}
use Rattle.std.specs.List.{slice_get}
use Rattle.audit_definitions.specs.Seals.{AreToldBy}
use Rattle.layer_definitions.specs.Network.{HasPdu, IsInWidths, net_text}
use Rattle.mesh_base.specs.declared.fields.NetMaterial.{NetMaterial}
use Rattle.mesh_base.specs.declared.address.Address.{Address}
use Rattle.mesh_base.specs.declared.fields.NetFields.{NetFields}
use Rattle.mesh_base.specs.declared.pair.Pair.{Pair}
use Rattle.mesh_types.specs.declared.lines.Outcome.{Outcome}
use Rattle.mesh_types.specs.declared.lines.Outcome.TheVariants as O

pub record HasHeader (f : NetFields) (pair : Pair) (bit : Bool) (hops : ℕ) (from to : Address) : Type 0 where
  pub iv : f.iv ≡ pair.iv
  pub seq : f.seq ≡ pair.seq
  pub ctl : f.ctl ≡ bit
  pub ttl : f.ttl ≡ hops
  pub src : f.src.0 ≡ from.0
  pub dst : f.dst.0 ≡ to.0

abbrev pub Tells : Outcome → NetFields → Type 0
Tells (O.Ctl pair ttl src dst tpdu pdu) f = HasHeader f pair true ttl src dst × (f.tpdu ≡ tpdu)
Tells (O.Msg pair ttl src dst key payload pdu) f = HasHeader f pair false ttl src dst
Tells (O.Seg pair ttl src dst seg_o seg_n auth pdu) f = HasHeader f pair false ttl src dst
Tells (O.Relay pair ctl ttl src dst tpdu pdu) f = HasHeader f pair ctl ttl src dst × (f.tpdu ≡ tpdu)
Tells _ f = ⊥

-- under this material the octets are the network PDU of fields that the result tells
pub record IsSealedBy (m : NetMaterial) (outcome : Outcome) (octets : List ℕ) : Type 0 where
  pub fields : NetFields
  pub told : AreToldBy outcome fields
  pub has_pdu : HasPdu fields
  pub in_widths : IsInWidths fields
  pub text : net_text m fields ≡ octets

-- under one of these
pub record IsSealedUnder (ms : List NetMaterial) (outcome : Outcome) (octets : List ℕ) : Type 0 where
  pub place : ℕ
  pub material : NetMaterial
  pub given : slice_get ms place ≡ Some material
  pub sealed : IsSealedBy material outcome octets
