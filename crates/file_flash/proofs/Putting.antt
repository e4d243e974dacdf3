-- What is put at an offset, octet by octet.
use Rattle.std.proofs.Common.{◌≡◌, ◌⊎◌, ℕ, zero, suc, List, [], ◌∷◌, length, get_or, take, refl, ap, inl, inr, ⊎_elim}
use Rattle.std.specs.Int.{bit_at}
use Rattle.flash_model.specs.Octets.{IsTorn}
use Rattle.file_flash.specs.Backing.{put_at}

pub length-put_at : (at : ℕ) (bytes old : List ℕ) → length (put_at at bytes old) ≡ length old
length-put_at at bytes [] = refl
length-put_at (suc at) bytes (x ∷ old) = ap suc (length-put_at at bytes old)
length-put_at zero [] (x ∷ old) = refl
length-put_at zero (b ∷ bytes) (x ∷ old) = ap suc (length-put_at zero bytes old)

front_each : (at k : ℕ) (bytes old : List ℕ) (o : ℕ)
    → (get_or (put_at at (take k bytes) old) o 0 ≡ get_or old o 0) ⊎ (get_or (put_at at (take k bytes) old) o 0 ≡ get_or (put_at at bytes old) o 0)
front_each at k bytes [] o = inl refl
front_each (suc at) k bytes (x ∷ old) zero = inl refl
front_each (suc at) k bytes (x ∷ old) (suc o) = front_each at k bytes old o
front_each zero zero bytes (x ∷ old) o = inl refl
front_each zero (suc k) [] (x ∷ old) o = inl refl
front_each zero (suc k) (b ∷ bytes) (x ∷ old) zero = inr refl
front_each zero (suc k) (b ∷ bytes) (x ∷ old) (suc o) = front_each zero k bytes old o

-- a front of the range alone is there
pub front_torn : (at k : ℕ) (bytes old : List ℕ) → IsTorn old (put_at at bytes old) (put_at at (take k bytes) old)
front_torn at k bytes old = record {
  size = length-put_at at (take k bytes) old;
  each = λ o j. ⊎_elim (λ e. inl (ap (λ (x : ℕ). bit_at x j) e)) (λ e. inr (ap (λ (x : ℕ). bit_at x j) e)) (front_each at k bytes old o);
}
