-- What trials of several additional data on one sealed text have in common (RFC 3610, 2.2 and 2.3).
use Rattle.std.specs.Prelude.{◌≡◌, ℕ, List, [], ◌∷◌, length, replicate}
use Rattle.cipher_definitions.specs.Aes.{aes, chained}
use Rattle.cipher_definitions.specs.Ccm.{ccm_text, counter_block, first_block}
use Rattle.aes_ccm.specs.declared.trial.Trial.{Trial}

-- The text is what is encrypted as the octets that came; the chaining begins with the first block, which says of additional data only
-- that there are any; and the mask of the MIC is S_0.
pub record IsTrialOf (key nonce sealed text : List ℕ) (mic_length : ℕ) (t : Trial) : Type 0 where
  pub decrypted : text ≡ ccm_text key nonce sealed
  pub start : t.start ≡ chained key (replicate 16 0) (first_block nonce (0 ∷ []) (length text) mic_length ∷ [])
  pub mask : t.mask ≡ aes key (counter_block nonce 0)
