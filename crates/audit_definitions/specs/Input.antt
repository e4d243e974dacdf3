-- What an input of the audit is: at most 16 lines `key NET`, and then lines of a report with the octets of network PDUs.
use Rattle.std.specs.Prelude.{◌≡◌, ℕ, zero, suc, ◌+◌, ◌≤◌, ◌==◌, if◌then◌else◌, List, [], ◌∷◌, ◌++◌, length, take, codes, Option, Some, ⊤}
use Rattle.std.specs.List.{slice_split}
use Rattle.mesh_types.specs.declared.report.ReportLine.{ReportLine}
use Rattle.report_reader.specs.ReportLine.{IsReportLine}
use Rattle.script_definitions.specs.Forms.{net_word}
use Rattle.script_definitions.specs.declared.line.ScriptNet.{ScriptNet}

-- each piece but the last one stands before an LF, and the last one is a line if it has octets
unfoldable pub with_lf : List (List ℕ) → List (List ℕ)
with_lf [] = []
with_lf (last ∷ []) = if length last == 0 then [] else last ∷ []
with_lf (piece ∷ next ∷ more) = (piece ++ 10 ∷ []) ∷ with_lf (next ∷ more)

-- the lines of a text, each with its LF (0a), which the last one may lack; an empty text has none
abbrev pub lines_of : List ℕ → List (List ℕ)
lines_of text = with_lf (slice_split (λ b. b == 10) text)

-- `key`, one space, NET as in a script, and LF
pub record IsKeyLine (octets : List ℕ) (net : ScriptNet) : Type 0 where
  pub word : List ℕ
  pub text : octets ≡ codes "key " ++ word ++ 10 ∷ []
  pub means : net_word word ≡ Some net

-- each line is the report line at its place
abbrev pub AreReportLines : List (List ℕ) → List ReportLine → Type 0
AreReportLines [] [] = ⊤
AreReportLines (t ∷ ts) (l ∷ ls) = IsReportLine t l × AreReportLines ts ls
AreReportLines _ _ = ⊥

-- lines of at most so many keys, and behind them lines of a report
abbrev pub AreLines : ℕ → List (List ℕ) → List ScriptNet → List ReportLine → Type 0
AreLines room ts [] ls = AreReportLines ts ls
AreLines (suc room) (t ∷ ts) (n ∷ ns) ls = IsKeyLine t n × AreLines room ts ns ls
AreLines _ _ _ _ = ⊥

-- an input with these keys and these report lines
abbrev pub IsInput : List ℕ → List ScriptNet → List ReportLine → Type 0
IsInput text nets lines = AreLines 16 (lines_of text) nets lines

-- This line, counted from 1, is the first one that isn't of the form: the lines before it are an input, and with it they aren't.
pub record IsFirstOther (text : List ℕ) (line : ℕ) : Type 0 where
  pub least : 1 ≤ line
  pub most : line ≤ length (lines_of text)
  pub nets : List ScriptNet
  pub before : List ReportLine
  pub input : (n : ℕ) → n + 1 ≡ line → AreLines 16 (take n (lines_of text)) nets before
  pub other : (ns : List ScriptNet) (ls : List ReportLine) → AreLines 16 (take line (lines_of text)) ns ls → ⊥
