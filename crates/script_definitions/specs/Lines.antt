-- What the words of a line stand for, for each kind of line; None where a word isn't of its form or its range. The words are counted
-- from 0.
use Rattle.std.specs.Prelude.{ℕ, ◌+◌, ◌/◌, ◌==◌, ◌&&◌, ◌||◌, nat_le, nat_lt, if◌then◌else◌, Bool, true, List, length, Option, Some, None}
use Rattle.mesh_base.specs.declared.address.Address.{Address}
use Rattle.mesh_base.specs.declared.fields.NetFields.{NetFields}
use Rattle.script_definitions.specs.Words.{word_at}
use Rattle.script_definitions.specs.Digits.{◌>>=◌, number_word, decimal_word, key_word, octets_word}
use Rattle.script_definitions.specs.Forms.{address_word, ttl_word, bit_word, flags_word, flags_fit, tpdu_word, net_word, talk_key_word, talk_dst_word, piece_word, send_key_word, payload_word}
use Rattle.script_definitions.specs.declared.line.PeerLine.{PeerLine}
use Rattle.script_definitions.specs.declared.line.TalkPiece.{TalkPiece}
use Rattle.script_definitions.specs.declared.line.TalkPiece.TheVariants as P
use Rattle.script_definitions.specs.declared.line.TalkLine.{TalkLine}
use Rattle.script_definitions.specs.declared.line.TalkPdu.{TalkPdu}
use Rattle.script_definitions.specs.declared.line.SendLine.{SendLine}
use Rattle.script_definitions.specs.declared.line.ArmLine.{ArmLine}
use Rattle.script_definitions.specs.declared.line.BeaconLine.{BeaconLine}
use Rattle.script_definitions.specs.declared.line.RawLine.{RawLine}
use Rattle.script_definitions.specs.declared.script.ProvisionLine.{ProvisionLine}

-- the element addresses, from the first one on, are unicast: 0001 to 7fff
abbrev pub elements_fit : ℕ → ℕ → Bool
elements_fit unicast elements =
    nat_le 1 elements && nat_le elements 4 && nat_le 1 unicast && nat_le (unicast + elements) 0x8000

-- `provision UNICAST ELEMENTS IV FLAGS NETIDX NETKEY DEVKEY`
unfoldable pub provision_line : List (List ℕ) → Option ProvisionLine
provision_line ws =
    address_word (word_at ws 1) >>= λ unicast.
    decimal_word 1 (word_at ws 2) >>= λ elements.
    number_word 8 (word_at ws 3) >>= λ iv.
    flags_word (word_at ws 4) >>= λ flags.
    number_word 3 (word_at ws 5) >>= λ net_index.
    key_word (word_at ws 6) >>= λ net_key.
    key_word (word_at ws 7) >>= λ dev_key.
    if elements_fit unicast.0 elements && flags_fit flags iv
    then Some (record {
      unicast = unicast;
      elements = elements;
      iv = iv;
      flags = flags;
      net_index = net_index;
      net_key = net_key;
      dev_key = dev_key;
    })
    else None

-- `arm CALLS MASK`: CALLS is 0 to 100000
unfoldable pub arm_line : List (List ℕ) → Option ArmLine
arm_line ws =
    decimal_word 9 (word_at ws 1) >>= λ calls.
    number_word 2 (word_at ws 2) >>= λ mask.
    if nat_le calls 100000 then Some (record { calls = calls; mask = mask }) else None

-- `bK net HEX` and `bK bcn HEX`: 1 to 40 octets
unfoldable pub heard_line : List (List ℕ) → Option (List ℕ)
heard_line ws = octets_word 40 (word_at ws 2)

-- the fields of `bK peer NET IV CTL TTL SEQ SRC DST TPDU` behind NET
unfoldable pub peer_fields : List (List ℕ) → Option NetFields
peer_fields ws =
    number_word 8 (word_at ws 3) >>= λ iv.
    bit_word (word_at ws 4) >>= λ ctl.
    ttl_word (word_at ws 5) >>= λ ttl.
    number_word 6 (word_at ws 6) >>= λ seq.
    address_word (word_at ws 7) >>= λ src.
    address_word (word_at ws 8) >>= λ dst.
    tpdu_word ctl (word_at ws 9) >>= λ tpdu.
    Some (record { iv = iv; ctl = ctl; ttl = ttl; seq = seq; src = src; dst = dst; tpdu = tpdu })

-- `bK peer NET IV CTL TTL SEQ SRC DST TPDU`
unfoldable pub peer_line : List (List ℕ) → Option PeerLine
peer_line ws =
    net_word (word_at ws 2) >>= λ net.
    peer_fields ws >>= λ fields.
    Some (record { net = net; fields = fields })

-- An unsegmented PDU holds a payload of at most 11 octets, and its SEQ is that of the message. Segment SegO is one of the pieces of 12
-- octets that the payload and a TransMIC of 4 octets are cut into, and its SEQ is at most 8191 above that of the message
-- (Mesh Profile 1.0.1, section 3.5.3.1).
abbrev pub piece_fits : TalkPiece → ℕ → ℕ → ℕ → Bool
piece_fits P.Whole auth seq octets = nat_le octets 11 && (auth == seq)
piece_fits (P.Segment seg_o) auth seq octets =
    nat_lt seg_o ((octets + 15) / 12) && nat_le auth seq && nat_le seq (auth + 8191)

-- IV, TTL, AUTH, SEQ, SRC, DST and PIECE of `bK talk NET UKEY IV TTL AUTH SEQ SRC DST PIECE PAYLOAD`
unfoldable pub talk_pdu : List (List ℕ) → Option TalkPdu
talk_pdu ws =
    number_word 8 (word_at ws 4) >>= λ iv.
    ttl_word (word_at ws 5) >>= λ ttl.
    number_word 6 (word_at ws 6) >>= λ auth.
    number_word 6 (word_at ws 7) >>= λ seq.
    address_word (word_at ws 8) >>= λ src.
    talk_dst_word (word_at ws 9) >>= λ dst.
    piece_word (word_at ws 10) >>= λ piece.
    Some (record { iv = iv; ttl = ttl; auth = auth; seq = seq; src = src; dst = dst; piece = piece })

-- the same line with this payload
unfoldable pub talk_with : List (List ℕ) → List ℕ → Option TalkLine
talk_with ws payload =
    net_word (word_at ws 2) >>= λ net.
    talk_key_word (word_at ws 3) >>= λ key.
    talk_pdu ws >>= λ pdu.
    if piece_fits pdu.piece pdu.auth pdu.seq (length payload)
    then Some (record { net = net; key = key; pdu = pdu; payload = payload })
    else None

-- `bK talk NET UKEY IV TTL AUTH SEQ SRC DST PIECE PAYLOAD`
unfoldable pub talk_line : List (List ℕ) → Option TalkLine
talk_line ws = payload_word (word_at ws 11) >>= λ payload. talk_with ws payload

-- `bK beacon NETKEY FLAGS IV`
unfoldable pub beacon_line : List (List ℕ) → Option BeaconLine
beacon_line ws =
    key_word (word_at ws 2) >>= λ net_key.
    flags_word (word_at ws 3) >>= λ flags.
    number_word 8 (word_at ws 4) >>= λ iv.
    if flags_fit flags iv then Some (record { net_key = net_key; flags = flags; iv = iv }) else None

-- neither unassigned nor virtual (sections 3.4.2.1 and 3.4.2.3)
abbrev pub is_send_dst : ℕ → Bool
is_send_dst dst = (nat_le 1 dst && nat_lt dst 0x8000) || nat_le 0xc000 dst

-- `bK send ELEMENT DST TTL KEY PAYLOAD` with this payload, where the node has so many elements
unfoldable pub send_with : ℕ → List (List ℕ) → List ℕ → Option SendLine
send_with elements ws payload =
    decimal_word 1 (word_at ws 2) >>= λ element.
    address_word (word_at ws 3) >>= λ dst.
    ttl_word (word_at ws 4) >>= λ ttl.
    send_key_word (word_at ws 5) >>= λ key.
    if nat_lt element elements && is_send_dst dst.0
    then Some (record { element = element; dst = dst; ttl = ttl; key = key; payload = payload })
    else None

-- `bK send ELEMENT DST TTL KEY PAYLOAD`
unfoldable pub send_line : ℕ → List (List ℕ) → Option SendLine
send_line elements ws = payload_word (word_at ws 6) >>= λ payload. send_with elements ws payload

-- `bK raw DST TTL TPDU`: DST isn't 0000
unfoldable pub raw_line : List (List ℕ) → Option RawLine
raw_line ws =
    address_word (word_at ws 2) >>= λ dst.
    ttl_word (word_at ws 3) >>= λ ttl.
    tpdu_word true (word_at ws 4) >>= λ tpdu.
    if nat_le 1 dst.0 then Some (record { dst = dst; ttl = ttl; tpdu = tpdu }) else None

-- `bK tick N`: N is 1 to 100000000
unfoldable pub tick_line : List (List ℕ) → Option ℕ
tick_line ws =
    decimal_word 9 (word_at ws 2) >>= λ ticks.
    if nat_le 1 ticks && nat_le ticks 100000000 then Some ticks else None

-- `b0 list ADDR`: ADDR is c000 to feff
unfoldable pub list_line : List (List ℕ) → Option Address
list_line ws =
    address_word (word_at ws 2) >>= λ address.
    if nat_le 0xc000 address.0 && nat_le address.0 0xfeff then Some address else None
