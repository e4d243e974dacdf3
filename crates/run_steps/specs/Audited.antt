-- What the audit of a log leaves.
use Rattle.std.specs.Prelude.{◌≡◌, ◌⊎◌, ℕ, List}
use Rattle.audit_definitions.specs.Verdicts.{IsVerdict, verdict_text}
use Rattle.audit_definitions.specs.declared.verdict.Verdict.{Verdict}
use Rattle.report_writer.specs.Handing.{HandedFront, IsHanded}
use Rattle.report_writer.specs.Writing.{SinkView}
use Rattle.run_steps.specs.declared.status.Status.{Status}
use Rattle.run_steps.specs.declared.status.Status.TheVariants as S

-- the line of the verdict on a text was written, as one piece
pub record Audited (text : List ℕ) (before after : SinkView) : Type 0 where
  pub verdict : Verdict
  pub is_verdict : IsVerdict text verdict
  pub line : IsHanded (verdict_text verdict) before after

-- a front of it was
pub record AuditedFront (text : List ℕ) (before after : SinkView) : Type 0 where
  pub verdict : Verdict
  pub is_verdict : IsVerdict text verdict
  pub front : HandedFront (verdict_text verdict) before after

-- how an audit ends where neither source nor sink fails, and the text isn't too long
abbrev pub IsAuditEnd : Status → Type 0
IsAuditEnd status = (status ≡ S.Done) ⊎ (status ≡ S.Memory) ⊎ ((line : ℕ) × (status ≡ S.Report line))
