-- AES-CCM (RFC 3610) with L = 2, so a nonce of 13 octets and texts of fewer than 2^16 octets, with M
-- of 4 or 8 octets of MIC, and with fewer than 65,280 octets of additional data. Sealing alone is
-- defined: a text opens as the one that seals to it. Section numbers are the RFC's.
use Rattle.std.specs.Prelude.{◌≡◌, ℕ, zero, suc, ◌+◌, ◌-◌, ◌*◌, ◌/◌, List, [], ◌∷◌, ◌++◌, length, take, replicate, ◌==◌, if◌then◌else◌}
use Rattle.cipher_definitions.specs.Octets.{two_octets, xor_lists, block_count, whole_blocks}
use Rattle.cipher_definitions.specs.Aes.{aes, chained}

-- the octet of flags of B_0: 64 where there is additional data, M' = (M - 2) / 2 in bits 3 to 5, and
-- L' = 1 (2.2)
abbrev pub first_flags : List ℕ → ℕ → ℕ
first_flags additional mic_length = (if (length additional) == 0 then 0 else 64) + 8 * ((mic_length - 2) / 2) + 1

-- B_0: flags, nonce and the length of the text (2.2)
abbrev pub first_block : List ℕ → List ℕ → ℕ → ℕ → List ℕ
first_block nonce additional text_length mic_length =
    first_flags additional mic_length ∷ nonce ++ two_octets text_length

-- the blocks of the additional data, which begin with its length, or none where it is empty (2.2)
unfoldable pub additional_blocks : List ℕ → List (List ℕ)
additional_blocks additional =
    if (length additional) == 0 then [] else whole_blocks (two_octets (length additional) ++ additional)

-- T: the first M octets of the chaining of B_0, additional data and text (2.2)
unfoldable pub ccm_tag : List ℕ → List ℕ → List ℕ → List ℕ → ℕ → List ℕ
ccm_tag key nonce additional text mic_length =
    take mic_length
    (chained key (replicate 16 0)
    (first_block nonce additional (length text) mic_length ∷ additional_blocks additional ++ whole_blocks text))

-- A_i: the flags L' = 1, the nonce and the counter (2.3)
abbrev pub counter_block : List ℕ → ℕ → List ℕ
counter_block nonce i = 1 ∷ nonce ++ two_octets i

-- n blocks of the key stream, S_i and those after it (2.3)
unfoldable pub stream : List ℕ → List ℕ → ℕ → ℕ → List ℕ
stream key nonce i zero = []
stream key nonce i (suc n) = aes key (counter_block nonce i) ++ stream key nonce (i + 1) n

-- the encrypted text: its sum with the key stream from S_1 on (2.3)
unfoldable pub ccm_text : List ℕ → List ℕ → List ℕ → List ℕ
ccm_text key nonce text = xor_lists text (stream key nonce 1 (block_count (length text)))

-- U, the MIC of M octets: the sum of T and the first M octets of S_0 (2.3)
unfoldable pub ccm_mic : List ℕ → List ℕ → List ℕ → List ℕ → ℕ → List ℕ
ccm_mic key nonce additional text mic_length =
    xor_lists (ccm_tag key nonce additional text mic_length) (aes key (counter_block nonce 0))

-- a text seals to an encrypted text and a MIC (2.4)
abbrev pub Seals : List ℕ → List ℕ → List ℕ → List ℕ → List ℕ → List ℕ → Type 0
Seals key nonce additional text sealed mic =
    (ccm_text key nonce text ≡ sealed) × (ccm_mic key nonce additional text (length mic) ≡ mic)
