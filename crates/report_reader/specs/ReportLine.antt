-- The report line of a text: the line whose text it is. What a text doesn't tell of a line stands at a fixed value here, so that a text
-- has one line at most.
use Rattle.std.specs.Prelude.{◌≡◌, ℕ, ◌%◌, ◌/◌, ◌^◌, ◌<◌, ◌≤◌, true, false, List, length}
use Rattle.std.specs.List.{AllByRecursion}
use Rattle.hex.specs.Hex.{IsBytes}
use Rattle.mesh_base.specs.IvState.{transmit_of}
use Rattle.mesh_base.specs.Pairs.{IsPair}
use Rattle.mesh_base.specs.declared.address.Address.{Address}
use Rattle.mesh_base.specs.declared.iv_state.IvState.{IvState}
use Rattle.mesh_base.specs.declared.iv_state.IvStep.{IvStep}
use Rattle.mesh_base.specs.declared.iv_state.IvStep.TheVariants as I
use Rattle.mesh_base.specs.declared.pair.Name.{Name}
use Rattle.mesh_types.specs.declared.answers.Answer.{Answer}
use Rattle.mesh_types.specs.declared.answers.Answer.TheVariants as A
use Rattle.mesh_types.specs.declared.answers.KeyName.{KeyName}
use Rattle.mesh_types.specs.declared.answers.KeyName.TheVariants as N
use Rattle.mesh_types.specs.declared.lines.Outcome.{Outcome}
use Rattle.mesh_types.specs.declared.lines.Outcome.TheVariants as O
use Rattle.mesh_types.specs.declared.low_power.LowPowerAnswer.TheVariants as P
use Rattle.mesh_types.specs.declared.report.ReportLine.{ReportLine}
use Rattle.mesh_types.specs.declared.report.ReportLine.TheVariants as L
use Rattle.report_definitions.specs.Report.{line_text}

-- The widths of what a line tells.

-- at most so many octets
abbrev pub IsOctets : ℕ → List ℕ → Type 0
IsOctets most octets = (length octets ≤ most) × IsBytes octets

abbrev pub IsAddress : Address → Type 0
IsAddress a = a.0 < 2 ^ 16

abbrev pub IsName : Name → Type 0
IsName n = IsAddress n.src × IsPair n.pair

abbrev pub IsKeyName : KeyName → Type 0
IsKeyName N.Dev = Unit {0}
IsKeyName (N.App index) = index < 2 ^ 12

abbrev pub IsRoute : ℕ → Address → Address → Type 0
IsRoute ttl src dst = (ttl < 2 ^ 8) × IsAddress src × IsAddress dst

-- an IV state of which nothing is told
abbrev pub untold : IvState
untold = record { current = 0; progress = false; hours = 0; since = 0 }

-- a line names a step of the IV state, and doesn't tell the state that it leads to
abbrev pub IsToldStep : IvStep → Type 0
IsToldStep (I.Ignore rule) = rule < 2 ^ 8
IsToldStep (I.Begin to) = to ≡ untold
IsToldStep (I.Finish to) = to ≡ untold
IsToldStep (I.Recover to) = to ≡ untold
IsToldStep I.Wait = Unit {0}

abbrev pub IsToldAnswer : Answer → Type 0
IsToldAnswer (A.Replay kept) = IsPair kept
IsToldAnswer (A.NoRoom held) = (length held ≡ 8) × AllByRecursion IsName held
IsToldAnswer (A.Waiting missing) = missing < 2 ^ 8
IsToldAnswer (A.ListFull held) = held < 2 ^ 32
IsToldAnswer (A.Delivered name dst key payload) = IsName name × IsAddress dst × IsKeyName key × IsOctets 380 payload
IsToldAnswer (A.Control name dst opcode params) = IsName name × IsAddress dst × (opcode < 2 ^ 8) × IsOctets 256 params
IsToldAnswer (A.Beacon index key iv) = (index < 2 ^ 12) × IsToldStep iv
IsToldAnswer (A.NoAppKey index) = index < 2 ^ 12
IsToldAnswer (A.Ticked now) = now < 2 ^ 64
IsToldAnswer (A.Moved iv) = iv < 2 ^ 32
IsToldAnswer (A.SendFull held) = held < 2 ^ 32
IsToldAnswer (A.LowPower (P.TooMany held)) = held < 2 ^ 32
IsToldAnswer _ = Unit {0}

abbrev pub IsToldOutcome : Outcome → Type 0
IsToldOutcome (O.Ctl pair ttl src dst tpdu pdu) = IsPair pair × IsRoute ttl src dst × IsOctets 16 tpdu × IsOctets 29 pdu
IsToldOutcome (O.Msg pair ttl src dst key payload pdu) =
    IsPair pair × IsRoute ttl src dst × IsKeyName key × IsOctets 11 payload × IsOctets 29 pdu
IsToldOutcome (O.Long pair ttl src dst key payload) =
    IsPair pair × IsRoute ttl src dst × IsKeyName key × IsOctets 380 payload
IsToldOutcome (O.Seg pair ttl src dst seg_o seg_n auth pdu) =
    IsPair pair × IsRoute ttl src dst × (seg_o < 2 ^ 8) × (seg_n < 2 ^ 8) × (auth < 2 ^ 24) × IsOctets 29 pdu
IsToldOutcome (O.Relay pair ctl ttl src dst tpdu pdu) =
    IsPair pair × IsRoute ttl src dst × IsOctets 16 tpdu × IsOctets 29 pdu
IsToldOutcome (O.Rep name pdu) = IsName name × IsOctets 29 pdu
IsToldOutcome (O.Bcn octets) = (length octets ≡ 22) × IsBytes octets
IsToldOutcome (O.Spent iv) = iv < 2 ^ 32
IsToldOutcome (O.Late pair) = IsPair pair

-- A life opens with a known IV Index; its hours aren't told. Of the mark its SEQ is told, and stands under the transmit IV Index.
pub record IsToldOpening (state : IvState) (mark : ℕ) : Type 0 where
  pub current : state.current < 2 ^ 32
  pub hours : state.hours ≡ 0
  pub since : state.since ≡ 0
  pub iv : mark / 2 ^ 25 ≡ transmit_of state
  pub seq : mark % 2 ^ 25 ≤ 2 ^ 24

-- a line, with the octets of network PDUs shown, and with nothing that its text doesn't tell
abbrev pub IsTold : ReportLine → Type 0
IsTold (L.Opened life state mark) = (life < 2 ^ 32) × IsToldOpening state mark
IsTold (L.WasReset life) = life < 2 ^ 32
IsTold (L.CutAtStart life) = life < 2 ^ 32
IsTold (L.Entry at bearer number kind answer) =
    (at < 2 ^ 32) × (bearer < 2 ^ 8) × (number < 2 ^ 32) × IsToldAnswer answer
IsTold (L.Sent bearer entry job outcome hex) =
    (bearer < 2 ^ 8) × (entry < 2 ^ 32) × (job < 2 ^ 8) × IsToldOutcome outcome × (hex ≡ true)
IsTold L.End = Unit {0}
IsTold (L.Cut calls) = calls < 2 ^ 32

-- the report line of a text
pub record IsReportLine (octets : List ℕ) (line : ReportLine) : Type 0 where
  pub told : IsTold line
  pub text : line_text line ≡ octets

-- no report line has this text
abbrev pub IsNoReportLine : List ℕ → Type 0
IsNoReportLine text = (line : ReportLine) → IsReportLine text line → ⊥

-- the law: no text is that of two report lines
abbrev pub HaveOneLine : Type 0
HaveOneLine = (text : List ℕ) (l m : ReportLine) → IsReportLine text l → IsReportLine text m → l ≡ m
