-- A trial says what an opening says: its chaining and its mask are those of the MIC.
use Rattle.std.proofs.Common.{◌≡◌, ℕ, ◌<◌, eqb, false, List, [], ◌∷◌, length, take, refl, sym, ◌∙◌, arith}
use Rattle.std.proofs.lemmas.Bool.{ne_eqb}
use Rattle.cipher_definitions.specs.Octets.{xor_lists, whole_blocks}
use Rattle.cipher_definitions.specs.Aes.{chained}
use Rattle.cipher_definitions.specs.Ccm.{additional_blocks, ccm_mic, ccm_tag, first_block, first_flags, Seals}
use Rattle.aes_ccm.specs.declared.trial.Trial.{Trial}
use Rattle.aes_ccm.specs.Trials.{IsTrialOf}
use Rattle.aes_ccm.proofs.Loops.{tag_is}
use Rattle.aes_ccm.proofs.Opening.{opens, refuses}

-- the first block says of additional data only that there are any
same_flags : (additional : List ℕ) (mic_length : ℕ) → 0 < length additional → first_flags (0 ∷ []) mic_length ≡ first_flags additional mic_length
same_flags additional mic_length some =
    let none : eqb (length additional) 0 ≡ false = ne_eqb (length additional) 0 (λ e. omega arith) in
    rw none refl

same_first : (nonce additional : List ℕ) (n mic_length : ℕ) → 0 < length additional
    → first_block nonce (0 ∷ []) n mic_length ≡ first_block nonce additional n mic_length
same_first nonce additional n mic_length some = rw (same_flags additional mic_length some) refl

-- the masked front of the chaining is the MIC
pub masked : (key nonce sealed additional text mic tag : List ℕ) (t : Trial) → IsTrialOf key nonce sealed text (length mic) t → 0 < length additional
    → tag ≡ chained key (chained key t.start (additional_blocks additional)) (whole_blocks text)
    → xor_lists (take (length mic) tag) t.mask ≡ ccm_mic key nonce additional text (length mic)
unfolding ccm_mic chained
masked key nonce sealed additional text mic tag t trial some is =
    let front : take (length mic) tag ≡ ccm_tag key nonce additional text (length mic) =
    rw (is, trial.start, same_first nonce additional (length text) (length mic) some) (tag_is key nonce additional text (length mic)) in
    rw (front, trial.mask) refl

pub opened : (key nonce sealed additional text mic tag : List ℕ) (t : Trial) → IsTrialOf key nonce sealed text (length mic) t → 0 < length additional
    → tag ≡ chained key (chained key t.start (additional_blocks additional)) (whole_blocks text)
    → xor_lists (take (length mic) tag) t.mask ≡ mic → Seals key nonce additional text sealed mic
opened key nonce sealed additional text mic tag t trial some is same =
    opens key nonce additional text sealed mic trial.decrypted (sym (masked key nonce sealed additional text mic tag t trial some is) ∙ same)

pub unopened : (key nonce sealed additional text mic tag : List ℕ) (t : Trial) → IsTrialOf key nonce sealed text (length mic) t → 0 < length additional
    → tag ≡ chained key (chained key t.start (additional_blocks additional)) (whole_blocks text)
    → (xor_lists (take (length mic) tag) t.mask ≡ mic → ⊥)
    → (other : List ℕ) → Seals key nonce additional other sealed mic → ⊥
unopened key nonce sealed additional text mic tag t trial some is other =
    refuses key nonce additional text sealed mic trial.decrypted (λ e. other (masked key nonce sealed additional text mic tag t trial some is ∙ e))
