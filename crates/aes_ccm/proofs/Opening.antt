-- What an encrypted text opens to: the text that seals to it, if its MIC is the one given.
use Rattle.std.proofs.Common.{◌≡◌, ℕ, List, length, ap, sym, ◌∙◌}
use Rattle.cipher_definitions.specs.Ccm.{ccm_text, ccm_mic, Seals}
use Rattle.cipher_definitions.proofs.Sealing.{ccm_text_twice}

-- the text decrypted seals to the octets given, if its MIC is the one given
pub opens : (key nonce additional text sealed mic : List ℕ) → text ≡ ccm_text key nonce sealed
    → ccm_mic key nonce additional text (length mic) ≡ mic → Seals key nonce additional text sealed mic
opens key nonce additional text sealed mic e m = (ap (λ t. ccm_text key nonce t) e ∙ ccm_text_twice key nonce sealed, m)

-- any text that seals to the octets given is the text decrypted
pub sole : (key nonce additional text sealed mic : List ℕ) → text ≡ ccm_text key nonce sealed
    → (other : List ℕ) → Seals key nonce additional other sealed mic → other ≡ text
sole key nonce additional text sealed mic e other s =
    sym (ccm_text_twice key nonce other) ∙ ap (λ t. ccm_text key nonce t) s.0 ∙ sym e

-- no text seals to the octets given, if the MIC of the text decrypted is another
pub refuses : (key nonce additional text sealed mic : List ℕ) → text ≡ ccm_text key nonce sealed
    → (ccm_mic key nonce additional text (length mic) ≡ mic → ⊥)
    → (other : List ℕ) → Seals key nonce additional other sealed mic → ⊥
refuses key nonce additional text sealed mic e wrong other s =
    wrong (ap (λ t. ccm_mic key nonce additional t (length mic)) (sym (sole key nonce additional text sealed mic e other s)) ∙ s.1)
