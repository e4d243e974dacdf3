-- The numbers of a verdict.
use Rattle.std.specs.Prelude.{◌<◌, ◌^◌}
use Rattle.audit_definitions.specs.declared.verdict.Verdict.{Verdict}
use Rattle.audit_definitions.specs.declared.verdict.Verdict.TheVariants as V

-- they have 32 bits, as those of every verdict that code holds
abbrev pub HasNumbers : Verdict → Type 0
HasNumbers (V.Sound lines) = lines < 2 ^ 32
HasNumbers (V.Reuse a b) = (a < 2 ^ 32) × (b < 2 ^ 32)
HasNumbers (V.Twice a b) = (a < 2 ^ 32) × (b < 2 ^ 32)
HasNumbers (V.Bad line) = line < 2 ^ 32
