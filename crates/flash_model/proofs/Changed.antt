-- Programmed and blanked octets, place by place.
use Rattle.std.proofs.Common.{◌≡◌, ℕ, zero, suc, ◌+◌, ◌<◌, ◌≤◌, List, [], ◌∷◌, length, get_or, refl, ap, arith}
use Rattle.std.specs.Prelude.{bit_and}
use Rattle.flash_model.specs.Octets.{programmed, blanked}

pub length-programmed : (at : ℕ) (bytes old : List ℕ) → length (programmed at bytes old) ≡ length old
length-programmed at bytes [] = refl
length-programmed (suc at) bytes (x ∷ old) = ap suc (length-programmed at bytes old)
length-programmed zero [] (x ∷ old) = refl
length-programmed zero (b ∷ bytes) (x ∷ old) = ap suc (length-programmed zero bytes old)

pub length-blanked : (at n : ℕ) (old : List ℕ) → length (blanked at n old) ≡ length old
length-blanked at n [] = refl
length-blanked (suc at) n (x ∷ old) = ap suc (length-blanked at n old)
length-blanked zero zero (x ∷ old) = refl
length-blanked zero (suc n) (x ∷ old) = ap suc (length-blanked zero n old)

-- no octet but those of the range changes
pub programmed_below : (at : ℕ) (bytes old : List ℕ) (o : ℕ) → o < at → get_or (programmed at bytes old) o 0 ≡ get_or old o 0
programmed_below at bytes [] o h = refl
programmed_below (suc at) bytes (x ∷ old) zero h = refl
programmed_below (suc at) bytes (x ∷ old) (suc o) h = programmed_below at bytes old o (omega arith)
programmed_below zero bytes (x ∷ old) o h = absurd (omega arith)

pub programmed_above : (at : ℕ) (bytes old : List ℕ) (o : ℕ) → at + length bytes ≤ o → get_or (programmed at bytes old) o 0 ≡ get_or old o 0
programmed_above at bytes [] o h = refl
programmed_above (suc at) bytes (x ∷ old) zero h = refl
programmed_above (suc at) bytes (x ∷ old) (suc o) h = programmed_above at bytes old o (omega arith)
programmed_above zero [] (x ∷ old) o h = refl
programmed_above zero (b ∷ bytes) (x ∷ old) zero h = absurd (omega arith)
programmed_above zero (b ∷ bytes) (x ∷ old) (suc o) h = programmed_above zero bytes old o (omega arith)

-- each octet of the range is old AND new
pub programmed_within : (at : ℕ) (bytes old : List ℕ) (k o : ℕ) → o ≡ at + k → k < length bytes → o < length old → get_or (programmed at bytes old) o 0 ≡ bit_and (get_or old o 0) (get_or bytes k 0)
programmed_within at bytes [] k o e h within = absurd (omega arith)
programmed_within (suc at) bytes (x ∷ old) k zero e h within = absurd (omega arith)
programmed_within (suc at) bytes (x ∷ old) k (suc o) e h within = programmed_within at bytes old k o (omega arith) h (omega arith)
programmed_within zero [] (x ∷ old) k o e h within = absurd (omega arith)
programmed_within zero (b ∷ bytes) (x ∷ old) zero zero e h within = refl
programmed_within zero (b ∷ bytes) (x ∷ old) zero (suc o) e h within = absurd (omega arith)
programmed_within zero (b ∷ bytes) (x ∷ old) (suc k) zero e h within = absurd (omega arith)
programmed_within zero (b ∷ bytes) (x ∷ old) (suc k) (suc o) e h within = programmed_within zero bytes old k o (omega arith) (omega arith) (omega arith)

pub blanked_below : (at n : ℕ) (old : List ℕ) (o : ℕ) → o < at → get_or (blanked at n old) o 0 ≡ get_or old o 0
blanked_below at n [] o h = refl
blanked_below (suc at) n (x ∷ old) zero h = refl
blanked_below (suc at) n (x ∷ old) (suc o) h = blanked_below at n old o (omega arith)
blanked_below zero n (x ∷ old) o h = absurd (omega arith)

pub blanked_above : (at n : ℕ) (old : List ℕ) (o : ℕ) → at + n ≤ o → get_or (blanked at n old) o 0 ≡ get_or old o 0
blanked_above at n [] o h = refl
blanked_above (suc at) n (x ∷ old) zero h = refl
blanked_above (suc at) n (x ∷ old) (suc o) h = blanked_above at n old o (omega arith)
blanked_above zero zero (x ∷ old) o h = refl
blanked_above zero (suc n) (x ∷ old) zero h = absurd (omega arith)
blanked_above zero (suc n) (x ∷ old) (suc o) h = blanked_above zero n old o (omega arith)

pub blanked_within : (at n : ℕ) (old : List ℕ) (o : ℕ) → at ≤ o → o < at + n → o < length old → get_or (blanked at n old) o 0 ≡ 255
blanked_within at n [] o h above within = absurd (omega arith)
blanked_within (suc at) n (x ∷ old) zero h above within = absurd (omega arith)
blanked_within (suc at) n (x ∷ old) (suc o) h above within = blanked_within at n old o (omega arith) (omega arith) (omega arith)
blanked_within zero zero (x ∷ old) o h above within = absurd (omega arith)
blanked_within zero (suc n) (x ∷ old) zero h above within = refl
blanked_within zero (suc n) (x ∷ old) (suc o) h above within = blanked_within zero n old o (omega arith) (omega arith) (omega arith)
