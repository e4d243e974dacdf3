-- What program and erase calls do to octets, and what a cut within one leaves. Content is the list of a chip's octets.
use Rattle.std.specs.Prelude.{◌≡◌, ◌⊎◌, ℕ, zero, suc, ◌*◌, ◌<◌, List, [], ◌∷◌, length, bit_and, slice_index}
use Rattle.std.specs.Int.{bit_at}

-- all octets of a chip: 16 sectors of 4,096
pub record IsContent (content : List ℕ) : Type 0 where
  pub size : length content ≡ 65536
  pub octets : (o : ℕ) → slice_index content o < 256

-- after programming these octets from offset `at` on: each is old AND new, all others stay
abbrev pub programmed : ℕ → List ℕ → List ℕ → List ℕ
programmed at bytes [] = []
programmed (suc at) bytes (x ∷ old) = x ∷ programmed at bytes old
programmed zero [] (x ∷ old) = x ∷ old
programmed zero (b ∷ bytes) (x ∷ old) = bit_and x b ∷ programmed zero bytes old

-- the octets from offset `at` on, so many, are ff, all others stay
abbrev pub blanked : ℕ → ℕ → List ℕ → List ℕ
blanked at n [] = []
blanked (suc at) n (x ∷ old) = x ∷ blanked at n old
blanked zero zero (x ∷ old) = x ∷ old
blanked zero (suc n) (x ∷ old) = 255 ∷ blanked zero n old

-- after erasing a sector
abbrev pub erased : ℕ → List ℕ → List ℕ
erased sector old = blanked (4096 * sector) 4096 old

-- each bit is that of the one or of the other
abbrev pub IsBetween : ℕ → ℕ → ℕ → Type 0
IsBetween old new x = (j : ℕ) → (bit_at x j ≡ bit_at old j) ⊎ (bit_at x j ≡ bit_at new j)

-- What a cut may leave while `old` becomes `new`: each bit old or new. So an octet that was to stay stays.
pub record IsTorn (old new octets : List ℕ) : Type 0 where
  pub size : length octets ≡ length old
  pub each : (o : ℕ) → IsBetween (slice_index old o) (slice_index new o) (slice_index octets o)

-- each bit whose bit in the mask is 1 is the new one, the others are the old ones
pub record IsMasked (mask old new x : ℕ) : Type 0 where
  pub taken : (j : ℕ) → bit_at mask j ≡ 1 → bit_at x j ≡ bit_at new j
  pub kept : (j : ℕ) → bit_at mask j ≡ 0 → bit_at x j ≡ bit_at old j

-- the same of all octets, each under that mask
pub record IsMixed (mask : ℕ) (old new octets : List ℕ) : Type 0 where
  pub size : length octets ≡ length old
  pub each : (o : ℕ) → IsMasked mask (slice_index old o) (slice_index new o) (slice_index octets o)
