-- What the lines of a life stand for: the events of each bearer. The octets that an outside node seals are texts of the layers (Mesh Profile
-- 1.0.1).
use Rattle.std.specs.Prelude.{ℕ, ◌==◌, Bool, true, false, if◌then◌else◌, List, Option, Some, None}
use Rattle.std.specs.List.{filter_map}
use Rattle.cipher_definitions.specs.Kdf.{aid, virtual_address}
use Rattle.layer_definitions.specs.Beacon.{beacon_text}
use Rattle.layer_definitions.specs.KeyRefresh.{app_key, friendship_material, master_material}
use Rattle.layer_definitions.specs.Lower.{lower_text, segment}
use Rattle.layer_definitions.specs.Network.{net_text}
use Rattle.layer_definitions.specs.Upper.{upper_text}
use Rattle.mesh_base.specs.declared.address.Address.{Address}
use Rattle.mesh_base.specs.declared.fields.NetFields.{NetFields}
use Rattle.mesh_base.specs.declared.fields.NetMaterial.{NetMaterial}
use Rattle.mesh_base.specs.declared.keys.UpperKey.{UpperKey}
use Rattle.mesh_base.specs.declared.keys.UpperKey.TheVariants as U
use Rattle.mesh_base.specs.declared.lower.Lower.{Lower}
use Rattle.mesh_base.specs.declared.lower.Lower.TheVariants.{Access}
use Rattle.mesh_base.specs.declared.upper.UpperFields.{UpperFields}
use Rattle.mesh_types.specs.declared.events.Event.{Event}
use Rattle.mesh_types.specs.declared.events.Event.TheVariants as E
use Rattle.mesh_types.specs.declared.low_power.LowPowerEvent.TheVariants as W
use Rattle.script_definitions.specs.declared.line.PeerLine.{PeerLine}
use Rattle.script_definitions.specs.declared.line.ScriptLine.{ScriptLine}
use Rattle.script_definitions.specs.declared.line.ScriptLine.TheVariants as L
use Rattle.script_definitions.specs.declared.line.ScriptNet.{ScriptNet}
use Rattle.script_definitions.specs.declared.line.ScriptNet.TheVariants as N
use Rattle.script_definitions.specs.declared.line.TalkDst.{TalkDst}
use Rattle.script_definitions.specs.declared.line.TalkDst.TheVariants as D
use Rattle.script_definitions.specs.declared.line.TalkKey.{TalkKey}
use Rattle.script_definitions.specs.declared.line.TalkKey.TheVariants as K
use Rattle.script_definitions.specs.declared.line.TalkLine.{TalkLine}
use Rattle.script_definitions.specs.declared.line.TalkPdu.{TalkPdu}
use Rattle.script_definitions.specs.declared.line.TalkPiece.{TalkPiece}
use Rattle.script_definitions.specs.declared.line.TalkPiece.TheVariants as P

-- what an outside node seals network PDUs with (3.8.6.3.1)
abbrev pub material_of : ScriptNet → NetMaterial
material_of (N.Master key) = master_material key
material_of (N.Friendship key lpn friend lpn_counter friend_counter) =
    friendship_material key lpn.0 friend.0 lpn_counter friend_counter

-- the octets of `peer`
abbrev pub peer_text : PeerLine → List ℕ
peer_text peer = net_text (material_of peer.net) peer.fields

-- An application key is known by its AID in the PDU; the index that it goes by in the node is in no octet.
abbrev pub upper_key : TalkKey → UpperKey
upper_key (K.Device key) = U.Device key
upper_key (K.App key) = app_key 0 key

abbrev pub is_app : TalkKey → Bool
is_app (K.Device key) = false
is_app (K.App key) = true

abbrev pub aid_of : TalkKey → ℕ
aid_of (K.Device key) = 0
aid_of (K.App key) = aid key

-- the destination of a message, and the label that its seal adds, if there is one (3.4.2.3, 3.8.7.1)
abbrev pub dst_of : TalkDst → Address
dst_of (D.Address address) = address
dst_of (D.Label label) = record { 0 = virtual_address label }

abbrev pub label_of : TalkDst → Option (List ℕ)
label_of (D.Address address) = None
label_of (D.Label label) = Some label

-- the upper transport PDU of `talk`, with a TransMIC of 4 octets, under the IV Index and AUTH (3.6.2)
abbrev pub talk_upper_fields : TalkPdu → UpperFields
talk_upper_fields pdu = record {
  pair = record { iv = pdu.iv; seq = pdu.auth };
  src = pdu.src;
  dst = dst_of pdu.dst;
  long_mic = false;
  label = label_of pdu.dst;
}

abbrev pub talk_upper : TalkLine → List ℕ
talk_upper talk = upper_text (upper_key talk.key) (talk_upper_fields talk.pdu) talk.payload

-- the lower transport PDU of `talk`: the whole message, or one of its segments (3.5.2.1, 3.5.2.2)
abbrev pub lower_of : TalkPiece → TalkKey → ℕ → List ℕ → Lower
lower_of P.Whole key auth upper = Access (is_app key) (aid_of key) upper
lower_of (P.Segment seg_o) key auth upper = segment (is_app key) (aid_of key) auth upper seg_o

-- the network PDU of `talk` has CTL 0, and its own SEQ
abbrev pub talk_fields : TalkLine → NetFields
talk_fields talk = record {
  iv = talk.pdu.iv;
  ctl = false;
  ttl = talk.pdu.ttl;
  seq = talk.pdu.seq;
  src = talk.pdu.src;
  dst = dst_of talk.pdu.dst;
  tpdu = lower_text (lower_of talk.pdu.piece talk.key talk.pdu.auth (talk_upper talk));
}

-- the octets of `talk`
abbrev pub talk_text : TalkLine → List ℕ
talk_text talk = net_text (material_of talk.net) (talk_fields talk)

-- something that happens on a bearer
pub record Happening : Type 0 where
  pub bearer : ℕ
  pub event : Event

abbrev pub on : ℕ → Event → Option Happening
on bearer event = Some (record { bearer = bearer; event = event })

-- what a line of a script stands for; `sync` and `arm` are no events
abbrev pub happening_of : ScriptLine → Option Happening
happening_of (L.Net bearer octets) = on bearer (E.Net octets)
happening_of (L.Bcn bearer octets) = on bearer (E.Bcn octets)
happening_of (L.Peer bearer peer) = on bearer (E.Net (peer_text peer))
happening_of (L.Talk bearer talk) = on bearer (E.Net (talk_text talk))
happening_of (L.Beacon bearer beacon) = on bearer (E.Bcn (beacon_text beacon.net_key beacon.flags beacon.iv))
happening_of (L.Send bearer send) = on bearer (E.Send send.element send.dst send.ttl send.key send.payload)
happening_of (L.Raw bearer raw) = on bearer (E.Raw raw.dst raw.ttl raw.tpdu)
happening_of (L.Tick bearer ticks) = on bearer (E.Tick ticks)
happening_of (L.Seek bearer) = on bearer (E.LowPower W.Seek)
happening_of (L.Poll bearer) = on bearer (E.LowPower W.Poll)
happening_of (L.List bearer address) = on bearer (E.LowPower (W.List address))
happening_of _ = None

abbrev pub event_on : ℕ → Option Happening → Option Event
event_on k None = None
event_on k (Some h) = if h.bearer == k then Some h.event else None

-- the events of bearer k that these lines stand for, in their order
abbrev pub events_on : ℕ → List ScriptLine → List Event
events_on k lines = filter_map (λ line. event_on k (happening_of line)) lines
