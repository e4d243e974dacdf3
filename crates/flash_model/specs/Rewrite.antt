-- A sector erased and then programmed from its start on.
use Rattle.std.specs.Prelude.{◌≡◌, ◌⊎◌, ℕ, ◌*◌, List}
use Rattle.flash_model.specs.Octets.{erased, programmed}
use Rattle.flash_model.specs.Chip.{Cut}

abbrev pub rewritten : ℕ → List ℕ → List ℕ → List ℕ
rewritten sector bytes old = programmed (4096 * sector) bytes (erased sector old)

-- what an image is once the erase returned
abbrev pub AfterErase : ℕ → (List ℕ → Type 0) → List ℕ → Type 0
AfterErase sector images c = (d : List ℕ) × images d × (c ≡ erased sector d)

-- a cut leaves an image as before, or torn while the sector is erased, or erased and torn while it is programmed
abbrev pub IsRewrite : ℕ → List ℕ → (List ℕ → Type 0) → List ℕ → Type 0
IsRewrite sector bytes images c =
    images c ⊎ (Cut (erased sector) images c ⊎ Cut (programmed (4096 * sector) bytes) (AfterErase sector images) c)
