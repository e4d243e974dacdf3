-- What lines of a report show: the network PDUs that went out, the payloads that were sealed, and the messages that were accepted.
use Rattle.std.specs.Prelude.{◌≡◌, ℕ, true, false, List, Option, Some, None, option_and_then, Contains}
use Rattle.std.specs.List.{filter_map}
use Rattle.layer_definitions.specs.Network.{HasPdu, IsInWidths, net_text}
use Rattle.mesh_base.specs.declared.address.Address.{Address}
use Rattle.mesh_base.specs.declared.fields.NetFields.{NetFields}
use Rattle.mesh_base.specs.declared.pair.Name.{Name}
use Rattle.mesh_base.specs.declared.pair.Pair.{Pair}
use Rattle.mesh_types.specs.declared.answers.Answer.{Answer}
use Rattle.mesh_types.specs.declared.answers.Answer.TheVariants as A
use Rattle.mesh_types.specs.declared.answers.KeyName.{KeyName}
use Rattle.mesh_types.specs.declared.lines.Outcome.{Outcome}
use Rattle.mesh_types.specs.declared.lines.Outcome.TheVariants as O
use Rattle.mesh_types.specs.declared.report.ReportLine.{ReportLine}
use Rattle.mesh_types.specs.declared.report.ReportLine.TheVariants as L
use Rattle.script_definitions.specs.Events.{material_of}
use Rattle.script_definitions.specs.declared.line.ScriptNet.{ScriptNet}

-- a network PDU that went out: who sent it first, under which pair, and its octets
pub record Sealed : Type 0 where
  pub name : Name
  pub octets : List ℕ

abbrev sealed_as : Pair → Address → List ℕ → Option Sealed
sealed_as pair src octets = Some (record { name = record { src = src; pair = pair }; octets = octets })

-- the network PDU that a result shows; `rep` shows one that went out before
abbrev pub sealed_by : Outcome → Option Sealed
sealed_by (O.Ctl pair ttl src dst tpdu pdu) = sealed_as pair src pdu
sealed_by (O.Msg pair ttl src dst key payload pdu) = sealed_as pair src pdu
sealed_by (O.Seg pair ttl src dst seg_o seg_n auth pdu) = sealed_as pair src pdu
sealed_by (O.Relay pair ctl ttl src dst tpdu pdu) = sealed_as pair src pdu
sealed_by _ = None

-- an access payload that was sealed: its nonce's fields, the name of its key, and the payload
pub record Message : Type 0 where
  pub name : Name
  pub dst : Address
  pub key : KeyName
  pub payload : List ℕ

abbrev pub message_by : Outcome → Option Message
message_by (O.Msg pair ttl src dst key payload pdu) =
    Some (record { name = record { src = src; pair = pair }; dst = dst; key = key; payload = payload })
message_by (O.Long pair ttl src dst key payload) =
    Some (record { name = record { src = src; pair = pair }; dst = dst; key = key; payload = payload })
message_by _ = None

-- SRC of what the node sends of its own
abbrev pub own_by : Outcome → Option Address
own_by (O.Ctl pair ttl src dst tpdu pdu) = Some src
own_by (O.Msg pair ttl src dst key payload pdu) = Some src
own_by (O.Long pair ttl src dst key payload) = Some src
own_by (O.Seg pair ttl src dst seg_o seg_n auth pdu) = Some src
own_by _ = None

-- the name of a message that was accepted
abbrev pub accepted_as : Answer → Option Name
accepted_as (A.Delivered name dst key payload) = Some name
accepted_as (A.Control name dst opcode params) = Some name
accepted_as _ = None

-- The same of a line.

abbrev pub result_of : ReportLine → Option Outcome
result_of (L.Sent bearer entry job outcome hex) = Some outcome
result_of _ = None

abbrev pub sealed : ReportLine → Option Sealed
sealed line = option_and_then sealed_by (result_of line)

abbrev pub message : ReportLine → Option Message
message line = option_and_then message_by (result_of line)

abbrev pub own_source : ReportLine → Option Address
own_source line = option_and_then own_by (result_of line)

abbrev pub accepted : ReportLine → Option Name
accepted (L.Entry at bearer number kind answer) = accepted_as answer
accepted _ = None

-- the own sources of a report
abbrev pub IsOwn : List ReportLine → Address → Type 0
IsOwn lines a = Contains (filter_map own_source lines) a

-- What a result says of the fields of its network PDU: CTL is 1 for `ctl`, 0 for `msg` and `seg`, since own segmented messages are access
-- messages, and printed for `relay`; the transport PDU is printed for `ctl` and `relay` alone.
abbrev pub AreToldBy : Outcome → NetFields → Type 0
AreToldBy (O.Ctl pair ttl src dst tpdu pdu) f =
    f ≡ record { iv = pair.iv; ctl = true; ttl = ttl; seq = pair.seq; src = src; dst = dst; tpdu = tpdu }
AreToldBy (O.Msg pair ttl src dst key payload pdu) f =
    f ≡ record { iv = pair.iv; ctl = false; ttl = ttl; seq = pair.seq; src = src; dst = dst; tpdu = f.tpdu }
AreToldBy (O.Seg pair ttl src dst seg_o seg_n auth pdu) f =
    f ≡ record { iv = pair.iv; ctl = false; ttl = ttl; seq = pair.seq; src = src; dst = dst; tpdu = f.tpdu }
AreToldBy (O.Relay pair ctl ttl src dst tpdu pdu) f =
    f ≡ record { iv = pair.iv; ctl = ctl; ttl = ttl; seq = pair.seq; src = src; dst = dst; tpdu = tpdu }
AreToldBy _ f = ⊥

-- under one of the keys the octets are the network PDU of fields that the result tells
pub record IsSealedSo (nets : List ScriptNet) (outcome : Outcome) (octets : List ℕ) : Type 0 where
  pub net : ScriptNet
  pub given : Contains nets net
  pub fields : NetFields
  pub told : AreToldBy outcome fields
  pub has_pdu : HasPdu fields
  pub in_widths : IsInWidths fields
  pub text : net_text (material_of net) fields ≡ octets
