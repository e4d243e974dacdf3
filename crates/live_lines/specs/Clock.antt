-- Time that a source tells.
use Rattle.std.specs.Prelude.{◌≡◌, ℕ, ◌+◌, ◌-◌, ◌^◌, ◌≤◌, Bool, true, ⊤, min}
use Rattle.script_definitions.specs.declared.line.ScriptLine.{ScriptLine}
use Rattle.script_definitions.specs.declared.line.ScriptLine.TheVariants as L
use Rattle.live_lines.specs.declared.clock.Awaited.{Awaited}
use Rattle.live_lines.specs.declared.clock.Awaited.TheVariants as A

-- as many ticks as a line `tick` may have
abbrev pub AreTicks : ℕ → Type 0
AreTicks ticks = (1 ≤ ticks) × (ticks ≤ 100000000)

-- what was told: time by a source alone that tells time
abbrev pub HasPassed : Bool → Awaited → Type 0
HasPassed clocked A.Input = ⊤
HasPassed clocked (A.Passed ticks) = (clocked ≡ true) × AreTicks ticks

-- how many ticks were told, with so many more: up to 2^64 - 1
abbrev pub told_more : ℕ → ℕ → ℕ
told_more told ticks = min (told + ticks) (2 ^ 64 - 1)

-- how many ticks were told, behind what was told last
abbrev pub with_told : ℕ → Awaited → ℕ
with_told told A.Input = told
with_told told (A.Passed ticks) = told_more told ticks

-- The line `b0 tick N` says that N ticks passed: as many as were told, so that the count of them rose.
pub record IsTimeLine (line : ScriptLine) (before after : ℕ) : Type 0 where
  pub ticks : ℕ
  pub some : AreTicks ticks
  pub is : line ≡ L.Tick 0 ticks
  pub told : after ≡ told_more before ticks
