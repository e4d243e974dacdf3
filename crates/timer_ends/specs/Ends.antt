-- The moment at which the first of some timers ends, in ticks of 10 ms; None where none of them runs.
use Rattle.std.specs.Prelude.{ℕ, ◌<◌, ◌≤◌, ◌^◌, ◌↔◌, ⊤, Option, Some, None}

-- a moment before it
abbrev pub IsBefore : ℕ → Option ℕ → Type 0
IsBefore now None = ⊤
IsBefore now (Some end) = now < end

-- At each moment of a life from this one on, something holds exactly where the moment is before that end.
abbrev pub HoldsUntil : ℕ → Option ℕ → (ℕ → Type 0) → Type 0
HoldsUntil from end Holds = (now : ℕ) → from ≤ now → now ≤ 2 ^ 48 → Holds now ↔ IsBefore now end
