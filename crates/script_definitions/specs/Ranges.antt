-- What holds of every line of a script, besides the widths of its types.
use Rattle.std.specs.Prelude.{◌≡◌, ℕ, ◌^◌, ◌≤◌, ◌<◌, List, length, count_by, IsTrue}
use Rattle.std.specs.List.{All}
use Rattle.node_limits.specs.declared.TheConstants.{LIVES, BEARER_LINES}
use Rattle.layer_definitions.specs.Network.{HasPdu}
use Rattle.mesh_types.specs.declared.events.SendKey.{SendKey}
use Rattle.mesh_types.specs.declared.events.SendKey.TheVariants as S
use Rattle.script_definitions.specs.Forms.{flags_fit}
use Rattle.script_definitions.specs.Lines.{elements_fit, is_send_dst, piece_fits}
use Rattle.script_definitions.specs.Kinds.{bearer_count, has_event}
use Rattle.script_definitions.specs.Reading.{is_arm, is_bearer_line}
use Rattle.script_definitions.specs.declared.kind.Grammar.{Grammar}
use Rattle.script_definitions.specs.declared.kind.Grammar.TheVariants as G
use Rattle.script_definitions.specs.declared.kind.EventKind.{EventKind}
use Rattle.script_definitions.specs.declared.kind.EventKind.TheVariants as E
use Rattle.script_definitions.specs.declared.kind.LineKind.{LineKind}
use Rattle.script_definitions.specs.declared.kind.LineKind.TheVariants as K
use Rattle.script_definitions.specs.declared.line.BeaconLine.{BeaconLine}
use Rattle.script_definitions.specs.declared.line.CountedLine.{CountedLine}
use Rattle.script_definitions.specs.declared.line.CountedLine.TheVariants as C
use Rattle.script_definitions.specs.declared.line.RawLine.{RawLine}
use Rattle.script_definitions.specs.declared.line.ScriptLine.{ScriptLine}
use Rattle.script_definitions.specs.declared.line.ScriptLine.TheVariants as L
use Rattle.script_definitions.specs.declared.line.SendLine.{SendLine}
use Rattle.script_definitions.specs.declared.line.TalkLine.{TalkLine}
use Rattle.script_definitions.specs.declared.line.TalkPdu.{TalkPdu}
use Rattle.script_definitions.specs.declared.script.ProvisionLine.{ProvisionLine}
use Rattle.script_definitions.specs.declared.script.Script.{Script}

-- `provision`: 1 to 4 elements with unicast addresses, two flags, and a key index of 12 bits
pub record IsProvision (p : ProvisionLine) : Type 0 where
  pub elements : IsTrue (elements_fit p.unicast.0 p.elements)
  pub flags : p.flags < 4
  pub iv : IsTrue (flags_fit p.flags p.iv)
  pub net_index : p.net_index < 2 ^ 12

-- octets heard: 1 to 40
abbrev pub IsHeard : List ℕ → Type 0
IsHeard octets = (1 ≤ length octets) × (length octets ≤ 40)

-- an access payload: 1 to 380 octets
abbrev pub IsPayload : List ℕ → Type 0
IsPayload payload = (1 ≤ length payload) × (length payload ≤ 380)

-- `talk`: a TTL of 7 bits, two SEQ of 24 bits, and a PDU that the message has
pub record IsTalkPdu (p : TalkPdu) : Type 0 where
  pub ttl : p.ttl < 2 ^ 7
  pub auth : p.auth < 2 ^ 24
  pub seq : p.seq < 2 ^ 24

pub record IsTalk (t : TalkLine) : Type 0 where
  pub pdu : IsTalkPdu t.pdu
  pub piece : IsTrue (piece_fits t.pdu.piece t.pdu.auth t.pdu.seq (length t.payload))
  pub payload : IsPayload t.payload

-- `beacon`: two flags, of which the one for the IV Update needs an IV Index of at least 1
abbrev pub IsBeaconLine : BeaconLine → Type 0
IsBeaconLine b = (b.flags < 4) × IsTrue (flags_fit b.flags b.iv)

-- the key of an own message: an index of 12 bits
abbrev pub IsSendKey : SendKey → Type 0
IsSendKey S.Own = Unit {0}
IsSendKey (S.Other key) = Unit {0}
IsSendKey (S.App index) = index < 2 ^ 12

-- `send`: an element of the node, a destination that is neither unassigned nor virtual, and a TTL of 7 bits
pub record IsSend (elements : ℕ) (s : SendLine) : Type 0 where
  pub element : s.element < elements
  pub dst : IsTrue (is_send_dst s.dst.0)
  pub ttl : s.ttl < 2 ^ 7
  pub key : IsSendKey s.key
  pub payload : IsPayload s.payload

-- `raw`: a destination that isn't unassigned, a TTL of 7 bits, and a transport control PDU of 1 to 12 octets
abbrev pub IsRaw : RawLine → Type 0
IsRaw r = (1 ≤ r.dst.0) × (r.ttl < 2 ^ 7) × (1 ≤ length r.tpdu) × (length r.tpdu ≤ 12)

-- a bearer of the grammar, and a line that the grammar has
abbrev pub IsOn : Grammar → ℕ → EventKind → Type 0
IsOn g bearer event = (bearer < bearer_count g) × IsTrue (has_event g event)

-- a line of a life, where the node has so many elements
abbrev pub IsLine : Grammar → ℕ → ScriptLine → Type 0
IsLine g elements L.Sync = g ≡ G.Node
IsLine g elements (L.Arm arm) = arm.calls ≤ 100000
IsLine g elements (L.Net bearer octets) = IsOn g bearer E.Net × IsHeard octets
IsLine g elements (L.Bcn bearer octets) = IsOn g bearer E.Bcn × IsHeard octets
IsLine g elements (L.Peer bearer peer) = IsOn g bearer E.Peer × HasPdu peer.fields
IsLine g elements (L.Talk bearer talk) = IsOn g bearer E.Talk × IsTalk talk
IsLine g elements (L.Beacon bearer beacon) = IsOn g bearer E.Beacon × IsBeaconLine beacon
IsLine g elements (L.Send bearer send) = IsOn g bearer E.Send × IsSend elements send
IsLine g elements (L.Raw bearer raw) = IsOn g bearer E.Raw × IsRaw raw
IsLine g elements (L.Tick bearer ticks) = IsOn g bearer E.Tick × (1 ≤ ticks) × (ticks ≤ 100000000)
IsLine g elements (L.Seek bearer) = IsOn g bearer E.Seek
IsLine g elements (L.Poll bearer) = IsOn g bearer E.Poll
IsLine g elements (L.List bearer address) = IsOn g bearer E.List × (0xc000 ≤ address.0) × (address.0 ≤ 0xfeff)

-- a kind of line that the grammar has
abbrev pub IsKind : Grammar → LineKind → Type 0
IsKind g K.Provision = Unit {0}
IsKind g K.Life = Unit {0}
IsKind g K.Arm = Unit {0}
IsKind g K.Sync = g ≡ G.Node
IsKind g (K.Bearer bearer event) = IsOn g bearer event

-- a counted line
abbrev pub IsCounted : Grammar → ℕ → CountedLine → Type 0
IsCounted g elements (C.Provision provision) = IsProvision provision
IsCounted g elements C.Life = Unit {0}
IsCounted g elements (C.Line line) = IsLine g elements line

-- a life: at most 4,096 lines of bearers, and at most one `arm`
pub record IsLife (g : Grammar) (elements : ℕ) (life : List ScriptLine) : Type 0 where
  pub lines : All (IsLine g elements) life
  pub events : count_by is_bearer_line life ≤ BEARER_LINES
  pub arms : count_by is_arm life ≤ 1

-- a script of a grammar: the node's data, and at most 64 lives
pub record IsScriptOf (g : Grammar) (s : Script) : Type 0 where
  pub provision : IsProvision s.provision
  pub lives : All (IsLife g s.provision.elements) s.lives
  pub count : length s.lives ≤ LIVES
