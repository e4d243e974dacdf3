-- Laws of network PDUs.
use Rattle.std.proofs.Common.{◌≡◌, ℕ, ◌+◌, ◌*◌, ◌/◌, ◌%◌, ◌^◌, ◌<◌, ◌≤◌, List, [], ◌∷◌, ◌++◌, length, take, drop, slice_index, get_or, refl, inl, inr, ◌⊎◌, sym, ap, ◌∙◌, Bool, true, false, if◌then◌else◌, arith}
use Rattle.std.proofs.lemmas.List.{take-append-drop, length-append, take_at, drop_at}
use Rattle.cipher_definitions.specs.Octets.{two_octets, xor_lists}
use Rattle.cipher_definitions.specs.Ccm.{Seals, ccm_text, ccm_mic}
use Rattle.cipher_definitions.proofs.Sealing.{length-ccm_text, ccm_text_injective}
use Rattle.cipher_definitions.proofs.Sums.{length-xor_lists, xor_lists_twice}
use Rattle.mesh_base.specs.declared.fields.NetFields.{NetFields}
use Rattle.mesh_base.specs.declared.fields.NetMaterial.{NetMaterial}
use Rattle.layer_definitions.proofs.OctetLaws.{append_backs, append_fronts, length-ccm_mic, three_octets-injective, two_octets-injective}
use Rattle.layer_definitions.specs.Network.{HasPdu, IsInWidths, IsHeardUnder, ReadsUnder, net_mic_length, network_header, network_nonce, network_plaintext, net_text, privacy_block, sealed_part}

-- NetMIC fits into a block
pub net_mic_length-le : (ctl : Bool) → net_mic_length ctl ≤ 16
net_mic_length-le true = omega arith
net_mic_length-le false = omega arith

-- what is sealed has the octets of DST, of the transport PDU and of NetMIC
pub length-sealed_part : (m : NetMaterial) (f : NetFields) → length (sealed_part m f) ≡ 2 + length f.tpdu + net_mic_length f.ctl
unfolding sealed_part
length-sealed_part m f =
    let nonce = network_nonce f in
    let text = network_plaintext f in
    let sealed = length-ccm_text m.encryption nonce text in
    let mic = length-ccm_mic m.encryption nonce [] text (net_mic_length f.ctl) (net_mic_length-le f.ctl) in
    omega (arith, length-append (ccm_text m.encryption nonce text) (ccm_mic m.encryption nonce [] text (net_mic_length f.ctl)), sealed, mic, length-append (two_octets f.dst.0) f.tpdu)

-- The transport PDU and NetMIC have at most 20 octets.
pub length-tpdu_and_mic-le : (f : NetFields) → HasPdu f → length f.tpdu + net_mic_length f.ctl ≤ 20
length-tpdu_and_mic-le f h =
    elim f.ctl as (λ ctl. length f.tpdu ≤ (if ctl then 12 else 16) → length f.tpdu + net_mic_length ctl ≤ 20)
    [ true ↦ (λ most. omega arith) | false ↦ (λ most. omega arith) ] h.most

-- NetMIC has at least 4 octets.
pub net_mic_length-least : (ctl : Bool) → 4 ≤ net_mic_length ctl
net_mic_length-least true = omega arith
net_mic_length-least false = omega arith

-- what is sealed has at least the seven octets of Privacy Random
pub length-sealed_part-least : (m : NetMaterial) (f : NetFields) → HasPdu f → 7 ≤ length (sealed_part m f)
length-sealed_part-least m f h = omega (arith, length-sealed_part m f, h.least, net_mic_length-least f.ctl)

-- CTL and TTL are determined by their octet
pub control_bit-injective : (c d : Bool) (t u : ℕ) → t < 2 ^ 7 → u < 2 ^ 7
    → (if c then 2 ^ 7 else 0) + t ≡ (if d then 2 ^ 7 else 0) + u → (c ≡ d) × (t ≡ u)
control_bit-injective true true t u h k e = (refl, omega arith)
control_bit-injective false false t u h k e = (refl, omega arith)
control_bit-injective true false t u h k e = absurd (omega arith)
control_bit-injective false true t u h k e = absurd (omega arith)

-- a network PDU in its three parts: the first octet, the obfuscated header, and what is sealed
abbrev pub obfuscated : NetMaterial → NetFields → List ℕ
obfuscated m f = xor_lists (network_header f) (take 6 (privacy_block m f.iv (sealed_part m f)))

abbrev pub opened_header : NetMaterial → ℕ → List ℕ → List ℕ
opened_header m iv octets = xor_lists (take 6 (drop 1 octets)) (take 6 (privacy_block m iv (drop 7 octets)))

pub length-obfuscated : (m : NetMaterial) (f : NetFields) → length (obfuscated m f) ≡ 6
length-obfuscated m f = length-xor_lists (network_header f) _

-- six octets, and what stands behind them, after a first octet
pub header_part : (x : ℕ) (header rest : List ℕ) → length header ≡ 6 → take 6 (drop 1 (x ∷ header ++ rest)) ≡ header
header_part x header rest e = take_at header rest 6 e

pub rest_part : (x : ℕ) (header rest : List ℕ) → length header ≡ 6 → drop 7 (x ∷ header ++ rest) ≡ rest
rest_part x header rest e = drop_at (x ∷ header) rest 7 (omega (arith, e))

-- what is sealed stands in a PDU from octet 7 on
pub sealed_part-net_text : (m : NetMaterial) (f : NetFields) → sealed_part m f ≡ drop 7 (net_text m f)
unfolding net_text
sealed_part-net_text m f = sym (rest_part (f.iv % 2 * 2 ^ 7 + m.nid) (obfuscated m f) (sealed_part m f) (length-obfuscated m f))

-- the header is what deobfuscation gives
pub header-net_text : (m : NetMaterial) (f : NetFields) → network_header f ≡ opened_header m f.iv (net_text m f)
unfolding net_text
header-net_text m f =
    let mask = take 6 (privacy_block m f.iv (sealed_part m f)) in
    sym (xor_lists_twice (network_header f) mask)
    ∙ ap (λ h. xor_lists h mask) (sym (header_part (f.iv % 2 * 2 ^ 7 + m.nid) (obfuscated m f) (sealed_part m f) (length-obfuscated m f)))
    ∙ ap (λ s. xor_lists (take 6 (drop 1 (net_text m f))) (take 6 (privacy_block m f.iv s))) (sealed_part-net_text m f)

-- two sets of fields under one IV Index that have one PDU have one header
pub header-same : (m : NetMaterial) (f g : NetFields) → f.iv ≡ g.iv → net_text m f ≡ net_text m g → network_header f ≡ network_header g
header-same m f g iv e =
    header-net_text m f
    ∙ ap (λ octets. opened_header m f.iv octets) e
    ∙ ap (λ i. opened_header m i (net_text m g)) iv
    ∙ sym (header-net_text m g)

-- the fields in the header are those of the other
pub record SameHeader (f g : NetFields) : Type 0 where
  pub ctl : f.ctl ≡ g.ctl
  pub ttl : f.ttl ≡ g.ttl
  pub seq : f.seq ≡ g.seq
  pub src : f.src.0 ≡ g.src.0

pub header-injective : (f g : NetFields) → HasPdu f → HasPdu g → IsInWidths f → IsInWidths g → network_header f ≡ network_header g → SameHeader f g
header-injective f g hf hg wf wg e =
    let control = control_bit-injective f.ctl g.ctl f.ttl g.ttl hf.ttl hg.ttl (ap (λ l. get_or l 0 0) e) in
    record {
      ctl = control.0;
      ttl = control.1;
      seq = three_octets-injective f.seq g.seq hf.seq hg.seq (ap (λ l. take 3 (drop 1 l)) e);
      src = two_octets-injective f.src.0 g.src.0 wf.src wg.src (ap (λ l. drop 4 l) e);
    }

-- one header under one IV Index makes one nonce
pub nonce-same : (f g : NetFields) → f.iv ≡ g.iv → SameHeader f g → network_nonce f ≡ network_nonce g
nonce-same f g iv h = rw (h.ctl, h.ttl, h.seq, h.src, iv) refl

-- what is sealed tells how long the transport PDU is, once CTL is known
pub tpdu_length-same : (m : NetMaterial) (f g : NetFields) → f.ctl ≡ g.ctl → sealed_part m f ≡ sealed_part m g → length f.tpdu ≡ length g.tpdu
tpdu_length-same m f g ctl e =
    let whole : length (sealed_part m f) ≡ length (sealed_part m g) = ap length e in
    let mic : net_mic_length f.ctl ≡ net_mic_length g.ctl = ap net_mic_length ctl in
    omega (arith, whole, mic, length-sealed_part m f, length-sealed_part m g)

-- what is sealed under one nonce has one plaintext
pub plaintext-same : (m : NetMaterial) (f g : NetFields) → network_nonce f ≡ network_nonce g → length f.tpdu ≡ length g.tpdu
    → sealed_part m f ≡ sealed_part m g → network_plaintext f ≡ network_plaintext g
unfolding sealed_part
plaintext-same m f g nonce lengths e =
    let key = m.encryption in
    let text = λ (h : NetFields). ccm_text key (network_nonce h) (network_plaintext h) in
    let long : length (text f) ≡ length (text g) =
    length-ccm_text key (network_nonce f) (network_plaintext f)
    ∙ omega (arith, lengths, length-append (two_octets f.dst.0) f.tpdu, length-append (two_octets g.dst.0) g.tpdu)
    ∙ sym (length-ccm_text key (network_nonce g) (network_plaintext g)) in
    ccm_text_injective key (network_nonce f) (network_plaintext f) (network_plaintext g)
    (append_fronts (text f) _ (text g) _ long e ∙ ap (λ n. ccm_text key n (network_plaintext g)) (sym nonce))

-- fields that agree one by one are the same
pub fields-same : (f g : NetFields) → f.iv ≡ g.iv → SameHeader f g → f.dst.0 ≡ g.dst.0 → f.tpdu ≡ g.tpdu → f ≡ g
fields-same f g iv h dst tpdu = rw (h.ctl, h.ttl, h.seq, h.src, iv, dst, tpdu) refl

-- no two sets of fields under one IV Index have one PDU
pub net_text-injective : (m : NetMaterial) (f g : NetFields) → HasPdu f → HasPdu g → IsInWidths f → IsInWidths g → f.iv ≡ g.iv
    → net_text m f ≡ net_text m g → f ≡ g
net_text-injective m f g hf hg wf wg iv e =
    let same = header-injective f g hf hg wf wg (header-same m f g iv e) in
    let sealed : sealed_part m f ≡ sealed_part m g = sealed_part-net_text m f ∙ ap (λ octets. drop 7 octets) e ∙ sym (sealed_part-net_text m g) in
    let lengths = tpdu_length-same m f g same.ctl sealed in
    let plain = plaintext-same m f g (nonce-same f g iv same) lengths sealed in
    fields-same f g iv same
    (two_octets-injective f.dst.0 g.dst.0 wf.dst wg.dst (ap (λ l. take 2 l) plain))
    (ap (λ l. drop 2 l) plain)

-- IVI tells the two IV Indexes apart under which a PDU may be heard
pub iv-same : (current : ℕ) (octets : List ℕ) (i j : ℕ) → IsHeardUnder current octets i → IsHeardUnder current octets j → i ≡ j
iv-same current octets i j (inl a, ivi) (inl b, ivj) = omega (arith, a, b, ivi, ivj)
iv-same current octets i j (inl a, ivi) (inr b, ivj) = omega (arith, a, b, ivi, ivj)
iv-same current octets i j (inr a, ivi) (inl b, ivj) = omega (arith, a, b, ivi, ivj)
iv-same current octets i j (inr a, ivi) (inr b, ivj) = omega (arith, a, b, ivi, ivj)

-- the first octet of a PDU has the lowest bit of the IV Index in its bit 7
pub ivi-net_text : (m : NetMaterial) (f : NetFields) → m.nid < 2 ^ 7 → f.iv % 2 ≡ slice_index (net_text m f) 0 / 2 ^ 7
unfolding net_text
ivi-net_text m f nid = omega arith

-- octets read as one set of fields under a material
pub reading-one : (m : NetMaterial) (current : ℕ) (octets : List ℕ) (f g : NetFields) → ReadsUnder m current octets f → ReadsUnder m current octets g → f ≡ g
reading-one m current octets f g one two =
    net_text-injective m f g one.has_pdu two.has_pdu one.in_widths two.in_widths (iv-same current octets f.iv g.iv one.iv two.iv) (one.text ∙ sym two.text)

-- the octets of a PDU read as its fields, where its IV Index may be heard
pub reading-own : (m : NetMaterial) (current : ℕ) (f : NetFields) → m.nid < 2 ^ 7 → HasPdu f → IsInWidths f → (f.iv ≡ current) ⊎ (f.iv + 1 ≡ current)
    → ReadsUnder m current (net_text m f) f
reading-own m current f nid has_pdu in_widths iv = record {
  has_pdu = has_pdu;
  in_widths = in_widths;
  iv = (iv, ivi-net_text m f nid);
  text = refl;
}

-- a PDU has 14 to 29 octets
pub length-net_text : (m : NetMaterial) (f : NetFields) → length (net_text m f) ≡ 7 + length (sealed_part m f)
unfolding net_text
length-net_text m f =
    let first = f.iv % 2 * 2 ^ 7 + m.nid in
    omega (arith, length-append (first ∷ obfuscated m f) (sealed_part m f), length-obfuscated m f)

pub length-net_text-least : (m : NetMaterial) (f : NetFields) → HasPdu f → 14 ≤ length (net_text m f)
length-net_text-least m f h = omega (arith, length-net_text m f, length-sealed_part-least m f h)

pub length-net_text-le : (m : NetMaterial) (f : NetFields) → HasPdu f → length (net_text m f) ≤ 29
length-net_text-le m f h = omega (arith, length-net_text m f, length-sealed_part m f, length-tpdu_and_mic-le f h)

-- octets in three parts
pub parts_of : (octets : List ℕ) → 7 ≤ length octets → octets ≡ slice_index octets 0 ∷ take 6 (drop 1 octets) ++ drop 7 octets
parts_of [] h = absurd (omega arith)
parts_of (x ∷ xs) h = ap (λ l. x ∷ l) (sym (take-append-drop 6 xs))

-- octets are a PDU of fields if each of their three parts is
pub net_text-from_parts : (m : NetMaterial) (f : NetFields) (octets : List ℕ) → 7 ≤ length octets
    → f.iv % 2 * 2 ^ 7 + m.nid ≡ slice_index octets 0 → network_header f ≡ opened_header m f.iv octets → sealed_part m f ≡ drop 7 octets
    → net_text m f ≡ octets
unfolding net_text
net_text-from_parts m f octets long first header sealed =
    let mask = take 6 (privacy_block m f.iv (drop 7 octets)) in
    let clear : obfuscated m f ≡ take 6 (drop 1 octets) =
    ap (λ s. xor_lists (network_header f) (take 6 (privacy_block m f.iv s))) sealed
    ∙ ap (λ h. xor_lists h mask) header
    ∙ xor_lists_twice (take 6 (drop 1 octets)) mask in
    ap (λ x. x ∷ obfuscated m f ++ sealed_part m f) first
    ∙ ap (λ h. slice_index octets 0 ∷ h ++ sealed_part m f) clear
    ∙ ap (λ s. slice_index octets 0 ∷ take 6 (drop 1 octets) ++ s) sealed
    ∙ sym (parts_of octets long)

-- what is sealed is an encrypted text and its MIC
pub sealed_part-from_seals : (m : NetMaterial) (f : NetFields) (text mic : List ℕ) → length mic ≡ net_mic_length f.ctl
    → Seals m.encryption (network_nonce f) [] (network_plaintext f) text mic → sealed_part m f ≡ text ++ mic
unfolding sealed_part
sealed_part-from_seals m f text mic e h =
    let nonce = network_nonce f in
    let plain = network_plaintext f in
    ap (λ t. t ++ ccm_mic m.encryption nonce [] plain (net_mic_length f.ctl)) h.0
    ∙ ap (λ t. text ++ t) (ap (λ n. ccm_mic m.encryption nonce [] plain n) (sym e) ∙ h.1)

-- and the other way round
pub seals-from_sealed_part : (m : NetMaterial) (f : NetFields) (text mic : List ℕ) → length mic ≡ net_mic_length f.ctl
    → sealed_part m f ≡ text ++ mic → Seals m.encryption (network_nonce f) [] (network_plaintext f) text mic
unfolding sealed_part
seals-from_sealed_part m f text mic e h =
    let nonce = network_nonce f in
    let plain = network_plaintext f in
    let sealed = ccm_text m.encryption nonce plain in
    let tag = ccm_mic m.encryption nonce [] plain (net_mic_length f.ctl) in
    let tag_long : length tag ≡ net_mic_length f.ctl = length-ccm_mic m.encryption nonce [] plain (net_mic_length f.ctl) (net_mic_length-le f.ctl) in
    let whole : length (sealed ++ tag) ≡ length (text ++ mic) = ap length h in
    let long : length sealed ≡ length text = omega (arith, e, tag_long, whole, length-append sealed tag, length-append text mic) in
    (append_fronts sealed tag text mic long h, ap (λ n. ccm_mic m.encryption nonce [] plain n) e ∙ append_backs sealed tag text mic long h)
