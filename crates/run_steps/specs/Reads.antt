-- What was read from a source.
use Rattle.std.specs.Prelude.{ℕ, ◌<◌, List, length, Option}
use Rattle.std.specs.Io.KnownBytes.{Consumes}

-- more than n octets were read
abbrev pub ReadsMoreThan : Option (List ℕ) → Option (List ℕ) → ℕ → Type 0
ReadsMoreThan old new n = (read : List ℕ) × Consumes old new read × (n < length read)
