-- Network PDUs (Mesh Profile 1.0.1). Section numbers are the profile's.
use Rattle.std.specs.Prelude.{◌≡◌, ℕ, ◌+◌, ◌*◌, ◌/◌, ◌%◌, ◌^◌, ◌<◌, ◌≤◌, ◌⊎◌, Bool, Some, List, [], ◌∷◌, ◌++◌, length, take, replicate, All, slice_index, slice_get, if◌then◌else◌}
use Rattle.cipher_definitions.specs.Octets.{two_octets, three_octets, four_octets, xor_lists}
use Rattle.cipher_definitions.specs.Aes.{aes}
use Rattle.cipher_definitions.specs.Ccm.{ccm_text, ccm_mic}
use Rattle.mesh_base.specs.declared.fields.Heard.{Heard}
use Rattle.mesh_base.specs.declared.fields.NetFields.{NetFields}
use Rattle.mesh_base.specs.declared.fields.NetMaterial.{NetMaterial}

-- CTL in bit 7 and TTL in the seven bits below (3.4.4.3, 3.4.4.4)
abbrev pub control_and_ttl : NetFields → ℕ
control_and_ttl f = (if f.ctl then 2 ^ 7 else 0) + f.ttl

-- the network nonce: type 00, CTL and TTL, SEQ, SRC, two octets of padding, IV Index (3.8.5.1)
abbrev pub network_nonce : NetFields → List ℕ
network_nonce f = 0 ∷ control_and_ttl f ∷ three_octets f.seq ++ two_octets f.src.0 ++ 0 ∷ 0 ∷ four_octets f.iv

-- what is encrypted: DST and the transport PDU (3.8.7.2)
abbrev pub network_plaintext : NetFields → List ℕ
network_plaintext f = two_octets f.dst.0 ++ f.tpdu

-- how many octets NetMIC has: 8 in a control message, 4 in an access message (3.4.4.9)
abbrev pub net_mic_length : Bool → ℕ
net_mic_length ctl = if ctl then 8 else 4

-- EncDST, EncTransportPDU and NetMIC: AES-CCM under the EncryptionKey, without additional data (3.8.7.2)
unfoldable pub sealed_part : NetMaterial → NetFields → List ℕ
sealed_part m f =
    let nonce = network_nonce f in
    let text = network_plaintext f in
    ccm_text m.encryption nonce text ++ ccm_mic m.encryption nonce [] text (net_mic_length f.ctl)

-- PECB: AES under the PrivacyKey of five octets of padding, the IV Index and Privacy Random, which is the first seven octets of what
-- is sealed (3.8.7.3)
unfoldable pub privacy_block : NetMaterial → ℕ → List ℕ → List ℕ
privacy_block m iv sealed = aes m.privacy (replicate 5 0 ++ four_octets iv ++ take 7 sealed)

-- what is obfuscated: CTL and TTL, SEQ, SRC (3.8.7.3)
abbrev pub network_header : NetFields → List ℕ
network_header f = control_and_ttl f ∷ three_octets f.seq ++ two_octets f.src.0

-- The octets of a network PDU: IVI, which is the lowest bit of the IV Index, and NID; the header, to which the first six octets of PECB
-- are added; what is sealed (3.4.4, 3.8.7).
unfoldable pub net_text : NetMaterial → NetFields → List ℕ
net_text m f =
    let sealed = sealed_part m f in
    (f.iv % 2 * 2 ^ 7 + m.nid) ∷ xor_lists (network_header f) (take 6 (privacy_block m f.iv sealed)) ++ sealed

-- There is a PDU of these fields: TTL has 7 bits and SEQ 24, and the transport PDU has 1 to 16 octets, or 1 to 12 in a control message
-- (3.4.4).
pub record HasPdu (f : NetFields) : Type 0 where
  pub ttl : f.ttl < 2 ^ 7
  pub seq : f.seq < 2 ^ 24
  pub least : 1 ≤ length f.tpdu
  pub most : length f.tpdu ≤ (if f.ctl then 12 else 16)

-- The other fields are within their widths, too: the IV Index has 32 bits, addresses have 16, and the transport PDU is of octets. The Rust
-- types say so of every value that code holds; here it is said of all fields that there might be.
pub record IsInWidths (f : NetFields) : Type 0 where
  pub iv : f.iv < 2 ^ 32
  pub src : f.src.0 < 2 ^ 16
  pub dst : f.dst.0 < 2 ^ 16
  pub tpdu : All (λ octet. octet < 2 ^ 8) f.tpdu

-- The IV Index of a PDU heard, by its IVI: the one of the known IV Index and the one before it whose lowest bit is IVI (3.4.4.1, 3.10.5).
-- There is none before 0.
abbrev pub IsHeardUnder : ℕ → List ℕ → ℕ → Type 0
IsHeardUnder current octets iv = ((iv ≡ current) ⊎ (iv + 1 ≡ current)) × (iv % 2 ≡ slice_index octets 0 / 2 ^ 7)

-- Under this material the octets read as these fields: they are the text of the fields.
pub record ReadsUnder (m : NetMaterial) (current : ℕ) (octets : List ℕ) (f : NetFields) : Type 0 where
  pub has_pdu : HasPdu f
  pub in_widths : IsInWidths f
  pub iv : IsHeardUnder current octets f.iv
  pub text : net_text m f ≡ octets

-- The octets read as these fields under the key at this place of the list, and as nothing under the keys before it.
pub record Reads (keys : List Heard) (current : ℕ) (octets : List ℕ) (f : NetFields) (place : ℕ)
    (by : Heard) : Type 0 where
  pub key : slice_get keys place ≡ Some by
  pub reads : ReadsUnder by.material current octets f
  pub first : (k : ℕ) (h : Heard) (g : NetFields) → k < place → slice_get keys k ≡ Some h
      → ReadsUnder h.material current octets g → ⊥

-- Under no key of the list do the octets read as anything.
abbrev pub IsUnread : List Heard → ℕ → List ℕ → Type 0
IsUnread keys current octets =
    (k : ℕ) (h : Heard) (f : NetFields) → slice_get keys k ≡ Some h → ReadsUnder h.material current octets f → ⊥
