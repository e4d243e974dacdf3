-- The verdict of an audit: the first thing that is wrong with a report, or that nothing is.
use Rattle.std.specs.Prelude.{◌≡◌, ◌≢◌, ℕ, ◌+◌, ◌<◌, ◌≤◌, ◌⊎◌, List, length, codes, ◌++◌, ◌∷◌, [], Option, Some, None}
use Rattle.std.specs.Fmt.{decimal}
use Rattle.std.specs.List.{slice_get}
use Rattle.mesh_base.specs.declared.address.Address.{Address}
use Rattle.mesh_base.specs.declared.pair.Name.{Name}
use Rattle.mesh_types.specs.declared.lines.Outcome.{Outcome}
use Rattle.mesh_types.specs.declared.report.ReportLine.{ReportLine}
use Rattle.script_definitions.specs.declared.line.ScriptNet.{ScriptNet}
use Rattle.audit_definitions.specs.Input.{IsInput}
use Rattle.audit_definitions.specs.Seals.{Sealed, Message, result_of, sealed, sealed_by, message, accepted, IsOwn, IsSealedSo}
use Rattle.audit_definitions.specs.declared.verdict.Verdict.{Verdict}
use Rattle.audit_definitions.specs.declared.verdict.Verdict.TheVariants as V

-- a network nonce of an own source was used for two PDUs
pub record ReusesNetworkNonce (Own : Address → Type 0) (l m : ReportLine) : Type 0 where
  pub one : Sealed
  pub two : Sealed
  pub first : sealed l ≡ Some one
  pub second : sealed m ≡ Some two
  pub own : Own one.name.src
  pub name : one.name ≡ two.name
  pub differ : one.octets ≢ two.octets

-- an application or device nonce was used for two payloads
pub record ReusesUpperNonce (l m : ReportLine) : Type 0 where
  pub one : Message
  pub two : Message
  pub first : message l ≡ Some one
  pub second : message m ≡ Some two
  pub name : one.name ≡ two.name
  pub dst : one.dst ≡ two.dst
  pub key : one.key ≡ two.key
  pub differ : one.payload ≢ two.payload

abbrev pub Reuses : (Address → Type 0) → ReportLine → ReportLine → Type 0
Reuses own l m = ReusesNetworkNonce own l m ⊎ ReusesUpperNonce l m

-- a message was accepted twice
pub record Accepts (l m : ReportLine) : Type 0 where
  pub name : Name
  pub first : accepted l ≡ Some name
  pub second : accepted m ≡ Some name

-- a line shows octets that aren't those of the PDU that it tells, under any key
pub record IsBadLine (nets : List ScriptNet) (l : ReportLine) : Type 0 where
  pub outcome : Outcome
  pub shown : Sealed
  pub result : result_of l ≡ Some outcome
  pub sealed : sealed_by outcome ≡ Some shown
  pub other : IsSealedSo nets outcome shown.octets → ⊥

-- The line with this number is l. The lines of keys are counted, too: so many stand before the report.
abbrev pub IsLineAt : ℕ → List ReportLine → ℕ → ReportLine → Type 0
IsLineAt keys lines number l = (i : ℕ) × (slice_get lines i ≡ Some l) × (number ≡ keys + i + 1)

-- two lines in their order
pub record Two (keys : ℕ) (lines : List ReportLine) (a b : ℕ) (Is : ReportLine → ReportLine → Type 0) : Type 0 where
  pub first : ReportLine
  pub second : ReportLine
  pub first_at : IsLineAt keys lines a first
  pub second_at : IsLineAt keys lines b second
  pub order : a < b
  pub are : Is first second

-- what is wrong with a report under these keys
abbrev pub IsWrong : List ScriptNet → List ReportLine → Verdict → Type 0
IsWrong nets lines (V.Sound count) = ⊥
IsWrong nets lines (V.Reuse a b) = Two (length nets) lines a b (Reuses (IsOwn lines))
IsWrong nets lines (V.Twice a b) = Two (length nets) lines a b Accepts
IsWrong nets lines (V.Bad b) = (l : ReportLine) × IsLineAt (length nets) lines b l × IsBadLine nets l

-- The order of what is wrong: by the line at which it shows, at one line Reuse before Twice before Bad, and then by the line before.
pub record Place : Type 0 where
  pub line : ℕ
  pub kind : ℕ
  pub before : ℕ

abbrev pub place : Verdict → Place
place (V.Reuse a b) = record { line = b; kind = 0; before = a }
place (V.Twice a b) = record { line = b; kind = 1; before = a }
place (V.Bad b) = record { line = b; kind = 2; before = 0 }
place (V.Sound count) = record { line = 0; kind = 3; before = 0 }

abbrev pub IsUpTo : Place → Place → Type 0
IsUpTo p q = (p.line < q.line) ⊎ ((p.line ≡ q.line) × ((p.kind < q.kind) ⊎ ((p.kind ≡ q.kind) × (p.before ≤ q.before))))

-- The verdict of a report under these keys: that nothing is wrong with so many lines, or the first thing that is wrong.
abbrev pub IsVerdictOf : List ScriptNet → List ReportLine → Verdict → Type 0
IsVerdictOf nets lines (V.Sound count) =
    (count ≡ length nets + length lines) × ((w : Verdict) → IsWrong nets lines w → ⊥)
IsVerdictOf nets lines v = IsWrong nets lines v × ((w : Verdict) → IsWrong nets lines w → IsUpTo (place v) (place w))

-- the verdict on an input
pub record IsVerdict (text : List ℕ) (v : Verdict) : Type 0 where
  pub nets : List ScriptNet
  pub lines : List ReportLine
  pub input : IsInput text nets lines
  pub verdict : IsVerdictOf nets lines v

-- the line of a verdict
abbrev pub verdict_text : Verdict → List ℕ
verdict_text (V.Sound lines) = codes "sound " ++ decimal lines ++ 10 ∷ []
verdict_text (V.Reuse a b) = codes "reuse " ++ decimal a ++ codes " " ++ decimal b ++ 10 ∷ []
verdict_text (V.Twice a b) = codes "twice " ++ decimal a ++ codes " " ++ decimal b ++ 10 ∷ []
verdict_text (V.Bad line) = codes "bad " ++ decimal line ++ 10 ∷ []

-- Laws.

-- a text says one list of keys and one list of report lines at most
abbrev pub HaveOneReading : Type 0
HaveOneReading =
    (text : List ℕ) (ns : List ScriptNet) (ls : List ReportLine) (ms : List ScriptNet) (ks : List ReportLine)
    → IsInput text ns ls → IsInput text ms ks → (ns ≡ ms) × (ls ≡ ks)

-- no input has two verdicts
abbrev pub HaveOneVerdict : Type 0
HaveOneVerdict = (text : List ℕ) (v w : Verdict) → IsVerdict text v → IsVerdict text w → v ≡ w
