-- What is wrong at a line, by what is known of its facts.
use Rattle.std.specs.Prelude.{◌≡◌, ℕ, Bool, true, false, if◌then◌else◌, List, Option, Some, None, min}
use Rattle.mesh_base.specs.declared.fields.NetMaterial.{NetMaterial}
use Rattle.mesh_types.specs.declared.lines.Outcome.{Outcome}
use Rattle.mesh_types.specs.declared.report.ReportLine.{ReportLine}
use Rattle.audit_definitions.specs.Seals.{Sealed, result_of, sealed_by}
use Rattle.audit_definitions.specs.declared.verdict.Verdict.{Verdict}
use Rattle.audit_definitions.specs.declared.verdict.Verdict.TheVariants as V
use Rattle.log_audit.specs.Told.{IsSealedUnder}

-- the first line with a key, where it used something else
abbrev pub differing : Option (ℕ × Bool) → Option ℕ
differing None = None
differing (Some known) = if known.1 then None else Some known.0

-- the lesser of two numbers, where there are both
abbrev pub least : Option ℕ → Option ℕ → Option ℕ
least None b = b
least (Some a) None = Some a
least (Some a) (Some b) = Some (min a b)

-- by the first line whose nonce is used again, what is known of the message accepted, and whether the octets are others
abbrev pub wrong_at : Option ℕ → Option (ℕ × Bool) → Bool → ℕ → Option Verdict
wrong_at (Some a) name bad b = Some (V.Reuse a b)
wrong_at None (Some known) bad b = Some (V.Twice known.0 b)
wrong_at None None true b = Some (V.Bad b)
wrong_at None None false b = None

-- the octets of a line aren't those of the PDU that it tells, under any of these materials
pub record IsBadUnder (ms : List NetMaterial) (l : ReportLine) : Type 0 where
  pub outcome : Outcome
  pub shown : Sealed
  pub result : result_of l ≡ Some outcome
  pub sealed : sealed_by outcome ≡ Some shown
  pub other : IsSealedUnder ms outcome shown.octets → ⊥
