-- No two texts seal to the same octets.
use Rattle.std.proofs.Common.{◌≡◌, ℕ, List, length, ap, sym, ◌∙◌}
use Rattle.cipher_definitions.specs.Octets.{block_count}
use Rattle.cipher_definitions.specs.Ccm.{stream, ccm_text, Seals}
use Rattle.cipher_definitions.proofs.Sums.{length-xor_lists, xor_lists_twice}

-- an encrypted text is as long as its text
pub length-ccm_text : (key nonce text : List ℕ) → length (ccm_text key nonce text) ≡ length text
unfolding ccm_text
length-ccm_text key nonce text = length-xor_lists text _

-- encrypting an encrypted text gives the text back
pub ccm_text_twice : (key nonce text : List ℕ) → ccm_text key nonce (ccm_text key nonce text) ≡ text
unfolding ccm_text
ccm_text_twice key nonce text =
    rw (length-ccm_text key nonce text) (xor_lists_twice text (stream key nonce 1 (block_count (length text))))

-- two texts with the same encrypted text are the same
pub ccm_text_injective : (key nonce text other : List ℕ) → ccm_text key nonce text ≡ ccm_text key nonce other → text ≡ other
ccm_text_injective key nonce text other e =
    sym (ccm_text_twice key nonce text) ∙ ap (λ c. ccm_text key nonce c) e ∙ ccm_text_twice key nonce other

-- two texts that seal to the same octets are the same
pub sealing_injective : (key nonce additional text other sealed mic : List ℕ)
    → Seals key nonce additional text sealed mic → Seals key nonce additional other sealed mic → text ≡ other
sealing_injective key nonce additional text other sealed mic one two =
    ccm_text_injective key nonce text other (one.0 ∙ sym two.0)
