-- What opens is what was sealed, and what doesn't open wasn't.
use Rattle.std.proofs.Common.{◌≡◌, ℕ, ◌+◌, ◌*◌, ◌/◌, ◌%◌, ◌^◌, ◌<◌, ◌≤◌, List, [], ◌∷◌, ◌++◌, length, drop, slice_index, nat_le, Bool, true, false, if◌then◌else◌, refl, sym, ◌∙◌, ap, subst, arith}
use Rattle.cipher_definitions.specs.Octets.{four_octets}
use Rattle.cipher_definitions.specs.Ccm.{Seals}
use Rattle.cipher_definitions.proofs.Sealing.{length-ccm_text}
use Rattle.mesh_base.specs.declared.fields.NetFields.{NetFields}
use Rattle.mesh_base.specs.declared.fields.NetMaterial.{NetMaterial}
use Rattle.layer_definitions.specs.Network.{HasPdu, IsInWidths, ReadsUnder, net_mic_length, net_text, network_header, network_nonce, network_plaintext}
use Rattle.layer_definitions.proofs.NetworkLaws.{header-net_text, length-net_text-le, length-net_text-least, length-sealed_part, net_text-from_parts, opened_header, sealed_part-from_seals, sealed_part-net_text, seals-from_sealed_part}
use Rattle.network_layer.specs.Opening.{IsSealedAs, IsTextOf, has_control_bit, most_of}

-- bit 7 of an octet of CTL and TTL is CTL
pub control_bit_of : (ctl : Bool) (ttl : ℕ) → ttl < 2 ^ 7 → nat_le (2 ^ 7) ((if ctl then 2 ^ 7 else 0) + ttl) ≡ ctl
control_bit_of true ttl h = grind arith
control_bit_of false ttl h = grind arith

-- CTL of fields is that of their header
pub control_of : (f : NetFields) (header : List ℕ) → HasPdu f → network_header f ≡ header → has_control_bit header ≡ f.ctl
control_of f header h e = ap has_control_bit (sym e) ∙ control_bit_of f.ctl f.ttl h.ttl

-- the nonce that a header and an IV Index make
abbrev pub nonce_of : List ℕ → ℕ → List ℕ
nonce_of header iv = 0 ∷ header ++ 0 ∷ 0 ∷ four_octets iv

pub network_nonce_of : (f : NetFields) (header : List ℕ) (iv : ℕ) → network_header f ≡ header → f.iv ≡ iv → network_nonce f ≡ nonce_of header iv
network_nonce_of f header iv e i = ap (λ h. nonce_of h f.iv) e ∙ ap (λ j. nonce_of header j) i

-- what is sealed has room for DST, an octet and NetMIC
pub sealed_least : (m : NetMaterial) (iv : ℕ) (header sealed : List ℕ) (f : NetFields) → IsSealedAs m iv header sealed f
    → 3 + net_mic_length (has_control_bit header) ≤ length sealed
sealed_least m iv header sealed f h =
    let same = ap net_mic_length (control_of f header h.has_pdu h.header_is) in
    omega (arith, same, ap length h.sealed_is, length-sealed_part m f, h.has_pdu.least)

-- fields that are sealed as these octets are what they open to
pub seals_of : (m : NetMaterial) (iv : ℕ) (header sealed nonce text mic : List ℕ) (f : NetFields) → IsSealedAs m iv header sealed f
    → nonce ≡ nonce_of header iv → sealed ≡ text ++ mic → length mic ≡ net_mic_length (has_control_bit header)
    → Seals m.encryption nonce [] (network_plaintext f) text mic
seals_of m iv header sealed nonce text mic f h n split long =
    let mic_long = long ∙ ap net_mic_length (control_of f header h.has_pdu h.header_is) in
    subst (λ n. Seals m.encryption n [] (network_plaintext f) text mic)
    (network_nonce_of f header iv h.header_is h.iv_is ∙ sym n)
    (seals-from_sealed_part m f text mic mic_long (h.sealed_is ∙ split))

-- and what they open to are fields that are sealed as they are
pub sealed_as : (m : NetMaterial) (iv : ℕ) (header sealed nonce plain text mic : List ℕ) (f : NetFields) → HasPdu f → IsInWidths f → f.iv ≡ iv
    → network_header f ≡ header → network_plaintext f ≡ plain → Seals m.encryption nonce [] plain text mic
    → nonce ≡ nonce_of header iv → sealed ≡ text ++ mic → length mic ≡ net_mic_length (has_control_bit header)
    → IsSealedAs m iv header sealed f
sealed_as m iv header sealed nonce plain text mic f has_pdu in_widths i e p s n split long = record {
  has_pdu = has_pdu;
  in_widths = in_widths;
  iv_is = i;
  header_is = e;
  sealed_is =
      sealed_part-from_seals m f text mic (long ∙ ap net_mic_length (control_of f header has_pdu e))
      (subst (λ t. Seals m.encryption (network_nonce f) [] t text mic) (sym p)
      (subst (λ k. Seals m.encryption k [] plain text mic) (n ∙ sym (network_nonce_of f header iv e i)) s))
      ∙ sym split;
}

-- what opens is as long as what is sealed
pub length_opened : (key nonce plain text mic : List ℕ) → Seals key nonce [] plain text mic → length plain ≡ length text
length_opened key nonce plain text mic s = sym (length-ccm_text key nonce plain) ∙ ap length s.0

-- DST, the transport PDU and NetMIC have at most 22 octets
pub most_of_sealed : (ctl : Bool) → most_of ctl + net_mic_length ctl ≡ 22
most_of_sealed true = refl
most_of_sealed false = refl

-- the first octet of a PDU
pub first_of : (m : NetMaterial) (f : NetFields) (octets : List ℕ) → net_text m f ≡ octets → f.iv % 2 * 2 ^ 7 + m.nid ≡ slice_index octets 0
unfolding net_text
first_of m f octets e = ap (λ l. slice_index l 0) e

-- NID of a PDU, once IVI is known
pub nid_of : (m : NetMaterial) (iv : ℕ) (octets : List ℕ) (f : NetFields) → iv % 2 ≡ slice_index octets 0 / 2 ^ 7 → IsTextOf m iv octets f
    → slice_index octets 0 % 2 ^ 7 ≡ m.nid
nid_of m iv octets f ivi h = omega (arith, first_of m f octets h.text, h.iv_is, ivi)

-- octets read under a material only if they have its NID
pub nid_of_reading : (m : NetMaterial) (current : ℕ) (octets : List ℕ) (f : NetFields) → ReadsUnder m current octets f → slice_index octets 0 % 2 ^ 7 ≡ m.nid
nid_of_reading m current octets f h = omega (arith, first_of m f octets h.text, h.iv.1)

-- the parts of a PDU are those of its fields
pub sealed_of_text : (m : NetMaterial) (iv : ℕ) (octets : List ℕ) (f : NetFields) → IsTextOf m iv octets f
    → IsSealedAs m iv (opened_header m iv octets) (drop 7 octets) f
sealed_of_text m iv octets f h = record {
  has_pdu = h.has_pdu;
  in_widths = h.in_widths;
  iv_is = h.iv_is;
  header_is = header-net_text m f ∙ ap (λ o. opened_header m f.iv o) h.text ∙ ap (λ i. opened_header m i octets) h.iv_is;
  sealed_is = sealed_part-net_text m f ∙ ap (λ o. drop 7 o) h.text;
}

-- and fields with these parts have this PDU
pub text_of_sealed : (m : NetMaterial) (iv : ℕ) (octets : List ℕ) (f : NetFields) → 7 ≤ length octets
    → iv % 2 ≡ slice_index octets 0 / 2 ^ 7 → slice_index octets 0 % 2 ^ 7 ≡ m.nid
    → IsSealedAs m iv (opened_header m iv octets) (drop 7 octets) f → IsTextOf m iv octets f
text_of_sealed m iv octets f long ivi nid h = record {
  has_pdu = h.has_pdu;
  in_widths = h.in_widths;
  iv_is = h.iv_is;
  text =
      net_text-from_parts m f octets long (omega (arith, h.iv_is, ivi, nid))
      (h.header_is ∙ ap (λ i. opened_header m i octets) (sym h.iv_is)) h.sealed_is;
}

-- octets that read as something are 14 to 29
pub length_of_reading : (m : NetMaterial) (current : ℕ) (octets : List ℕ) (f : NetFields) → ReadsUnder m current octets f
    → (14 ≤ length octets) × (length octets ≤ 29)
length_of_reading m current octets f h =
    let same = ap length h.text in
    (omega (arith, same, length-net_text-least m f h.has_pdu), omega (arith, same, length-net_text-le m f h.has_pdu))
