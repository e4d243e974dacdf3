-- What a write leaves of a place, where it is told.
use Rattle.std.specs.Prelude.{◌≡◌, ℕ, zero, suc, List, [], ◌∷◌, Option, Some, None, ⊤}
use Rattle.flash_model.specs.Octets.{IsTorn}

-- these octets from offset `at` on, all others stay
abbrev pub put_at : ℕ → List ℕ → List ℕ → List ℕ
put_at at bytes [] = []
put_at (suc at) bytes (x ∷ old) = x ∷ put_at at bytes old
put_at zero [] (x ∷ old) = x ∷ old
put_at zero (b ∷ bytes) (x ∷ old) = b ∷ put_at zero bytes old

-- where both are told, the one is the other with these octets put there
abbrev pub WasPut : ℕ → List ℕ → Option (List ℕ) → Option (List ℕ) → Type 0
WasPut at bytes None new = new ≡ None
WasPut at bytes (Some old) None = ⊤
WasPut at bytes (Some old) (Some new) = new ≡ put_at at bytes old

-- the same, each bit old or new
abbrev pub WasTorn : ℕ → List ℕ → Option (List ℕ) → Option (List ℕ) → Type 0
WasTorn at bytes None new = new ≡ None
WasTorn at bytes (Some old) None = ⊤
WasTorn at bytes (Some old) (Some new) = IsTorn old (put_at at bytes old) new
