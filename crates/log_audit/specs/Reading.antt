-- The parts of an input.
use Rattle.std.specs.Prelude.{◌≡◌, ℕ, ◌+◌, ◌≤◌, ◌⊎◌, Bool, List, [], ◌∷◌, length, take, drop, Some, ⊤}
use Rattle.std.specs.List.{list_any, slice_get}
use Rattle.mesh_types.specs.declared.report.ReportLine.{ReportLine}
use Rattle.report_reader.specs.ReportLine.{IsNoReportLine}
use Rattle.script_definitions.specs.declared.line.ScriptNet.{ScriptNet}
use Rattle.audit_definitions.specs.Input.{lines_of, IsKeyLine, AreReportLines, IsFirstOther}
use Rattle.log_audit.specs.Facts.{is_own_source}
use Rattle.log_audit.specs.declared.input.AuditStop.{AuditStop}
use Rattle.log_audit.specs.declared.input.AuditStop.TheVariants as S

-- each line is that of the key at its place
abbrev pub AreKeyLines : List (List ℕ) → List ScriptNet → Type 0
AreKeyLines [] [] = ⊤
AreKeyLines (t ∷ ts) (n ∷ ns) = IsKeyLine t n × AreKeyLines ts ns
AreKeyLines _ _ = ⊥

-- A text begins with the lines of these keys, behind which this text stands. They are 16, or the next line is none of a key.
pub record HasKeys (text : List ℕ) (keys : List ScriptNet) (rest : List ℕ) : Type 0 where
  pub are : AreKeyLines (take (length keys) (lines_of text)) keys
  pub behind : lines_of rest ≡ drop (length keys) (lines_of text)
  pub few : length keys ≤ 16
  pub end : (t : List ℕ) (ts : List (List ℕ)) → lines_of rest ≡ t ∷ ts
      → (length keys ≡ 16) ⊎ ((n : ScriptNet) → IsKeyLine t n → ⊥)
  pub size : length rest ≤ length text

-- these are the report lines of a text, and `own` tells their own sources
pub record IsRead (own : ℕ → Bool) (text : List ℕ) (lines : List ReportLine) : Type 0 where
  pub are : AreReportLines (lines_of text) lines
  pub sources : (a : ℕ) → own a ≡ list_any (is_own_source a) lines

-- behind so many lines, this line is the first one of a text that is none of a report
pub record IsFirstNone (text : List ℕ) (before line : ℕ) : Type 0 where
  pub at : ℕ
  pub number : line ≡ before + at + 1
  pub lines : List ReportLine
  pub are : AreReportLines (take at (lines_of text)) lines
  pub none : List ℕ
  pub found : slice_get (lines_of text) at ≡ Some none
  pub other : IsNoReportLine none

abbrev pub IsReportStop : List ℕ → ℕ → AuditStop → Type 0
IsReportStop text before (S.NotReport line) = IsFirstNone text before line
IsReportStop text before S.Memory = ⊤

-- an input is refused by its first line that isn't of the form
abbrev pub IsStop : List ℕ → AuditStop → Type 0
IsStop text (S.NotReport line) = IsFirstOther text line
IsStop text S.Memory = ⊤
