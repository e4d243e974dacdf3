-- Laws of upper transport access PDUs.
use Rattle.std.proofs.Common.{◌≡◌, ◌+◌, ℕ, ◌<◌, ◌≤◌, List, ◌++◌, length, Some, slice_get, ap, ◌∙◌, sym, subst, refl, Bool, true, false, arith}
use Rattle.std.proofs.lemmas.List.{length-append}
use Rattle.cipher_definitions.specs.Ccm.{Seals, ccm_text, ccm_mic}
use Rattle.cipher_definitions.proofs.Sealing.{length-ccm_text, ccm_text_injective}
use Rattle.mesh_base.specs.declared.keys.UpperKey.{UpperKey}
use Rattle.mesh_base.specs.declared.upper.UpperFields.{UpperFields}
use Rattle.layer_definitions.proofs.OctetLaws.{append_backs, append_fronts, length-ccm_mic}
use Rattle.layer_definitions.specs.Upper.{Opens, OpensUnder, key_octets, label_octets, trans_mic_length, upper_nonce, upper_text}

-- TransMIC fits into a block
pub trans_mic_length-le : (long_mic : Bool) → trans_mic_length long_mic ≤ 16
trans_mic_length-le true = omega arith
trans_mic_length-le false = omega arith

-- an upper transport access PDU has the octets of the payload and of TransMIC
pub length-upper_text : (key : UpperKey) (f : UpperFields) (payload : List ℕ) → length (upper_text key f payload) ≡ length payload + trans_mic_length f.long_mic
unfolding upper_text
length-upper_text key f payload =
    let text = length-ccm_text (key_octets key) (upper_nonce key f) payload in
    let mic = length-ccm_mic (key_octets key) (upper_nonce key f) (label_octets f) payload (trans_mic_length f.long_mic) (trans_mic_length-le f.long_mic) in
    length-append (ccm_text (key_octets key) (upper_nonce key f) payload) _ ∙ rw (text, mic) refl

-- no two payloads have one text under a key
pub upper_text-injective : (key : UpperKey) (f : UpperFields) (payload other : List ℕ) → upper_text key f payload ≡ upper_text key f other → payload ≡ other
unfolding upper_text
upper_text-injective key f payload other e =
    let nonce = upper_nonce key f in
    let whole : length (upper_text key f payload) ≡ length (upper_text key f other) = ap length e in
    let lengths : length payload ≡ length other = omega (arith, whole, length-upper_text key f payload, length-upper_text key f other) in
    let text = length-ccm_text (key_octets key) nonce payload ∙ lengths ∙ sym (length-ccm_text (key_octets key) nonce other) in
    ccm_text_injective (key_octets key) nonce payload other (append_fronts _ _ _ _ text e)

-- octets open to one payload under a key
pub opening-one : (key : UpperKey) (f : UpperFields) (upper payload other : List ℕ) → OpensUnder key f upper payload → OpensUnder key f upper other → payload ≡ other
opening-one key f upper payload other one two = upper_text-injective key f payload other (one.text ∙ sym two.text)

-- octets that open have more than TransMIC
pub length-opening : (key : UpperKey) (f : UpperFields) (upper payload : List ℕ) → OpensUnder key f upper payload → trans_mic_length f.long_mic < length upper
length-opening key f upper payload h = omega (arith, h.least, ap length h.text, length-upper_text key f payload)

-- what an encrypted text and its TransMIC open to is what they seal
pub opens-from_seals : (key : UpperKey) (f : UpperFields) (payload text mic : List ℕ) → 1 ≤ length text → length mic ≡ trans_mic_length f.long_mic
    → Seals (key_octets key) (upper_nonce key f) (label_octets f) payload text mic → OpensUnder key f (text ++ mic) payload
unfolding upper_text
opens-from_seals key f payload text mic least e h =
    let nonce = upper_nonce key f in
    let long : length (ccm_text (key_octets key) nonce payload) ≡ length text = ap length h.0 in
    record {
      least = omega (arith, least, long, length-ccm_text (key_octets key) nonce payload);
      text =
          ap (λ t. t ++ ccm_mic (key_octets key) nonce (label_octets f) payload (trans_mic_length f.long_mic)) h.0
          ∙ ap (λ t. text ++ t) (ap (λ n. ccm_mic (key_octets key) nonce (label_octets f) payload n) (sym e) ∙ h.1);
    }

-- and the other way round
pub seals-from_opens : (key : UpperKey) (f : UpperFields) (payload text mic : List ℕ) → length mic ≡ trans_mic_length f.long_mic
    → OpensUnder key f (text ++ mic) payload → Seals (key_octets key) (upper_nonce key f) (label_octets f) payload text mic
unfolding upper_text
seals-from_opens key f payload text mic e h =
    let nonce = upper_nonce key f in
    let sealed = ccm_text (key_octets key) nonce payload in
    let tag = ccm_mic (key_octets key) nonce (label_octets f) payload (trans_mic_length f.long_mic) in
    let tag_long : length tag ≡ trans_mic_length f.long_mic =
    length-ccm_mic (key_octets key) nonce (label_octets f) payload (trans_mic_length f.long_mic) (trans_mic_length-le f.long_mic) in
    let whole : length (sealed ++ tag) ≡ length (text ++ mic) = ap length h.text in
    let long : length sealed ≡ length text = omega (arith, e, tag_long, whole, length-append sealed tag, length-append text mic) in (
      append_fronts sealed tag text mic long h.text,
      ap (λ n. ccm_mic (key_octets key) nonce (label_octets f) payload n) e ∙ append_backs sealed tag text mic long h.text,
    )

-- what was sealed opens to itself
pub opening-own : (key : UpperKey) (f : UpperFields) (payload : List ℕ) → 1 ≤ length payload → OpensUnder key f (upper_text key f payload) payload
opening-own key f payload h = record { least = h; text = refl }

same_key : (keys : List UpperKey) (i j : ℕ) (a b : UpperKey) → i ≡ j → slice_get keys i ≡ Some a → slice_get keys j ≡ Some b → a ≡ b
same_key keys i j a b e h k = cc

-- octets open by one place of a list of keys, and to one payload
pub opening-place : (keys : List UpperKey) (f : UpperFields) (upper : List ℕ) (i j : ℕ) (payload other : List ℕ) → Opens keys f upper i payload → Opens keys f upper j other
    → (i ≡ j) × (payload ≡ other)
opening-place keys f upper i j payload other one two =
    let earlier : i < j → ⊥ = λ h. two.first i one.key payload h one.key_is one.opens in
    let later : j < i → ⊥ = λ h. one.first j two.key other h two.key_is two.opens in
    let place : i ≡ j = omega arith in
    let key : one.key ≡ two.key = same_key keys i j one.key two.key place one.key_is two.key_is in
    (place, opening-one two.key f upper payload other (subst (λ (k : UpperKey). OpensUnder k f upper payload) key one.opens) two.opens)
