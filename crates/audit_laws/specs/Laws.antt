-- The law of the audit of a report: of no run it tells that a nonce was used twice, or that a message was accepted twice.
use Rattle.std.specs.Prelude.{ℕ, ◌<◌, ◌≤◌, Bool, List, [], ◌++◌, All, ⊤}
use Rattle.audit_definitions.specs.Input.{IsInput}
use Rattle.audit_definitions.specs.Verdicts.{IsVerdict, IsWrong}
use Rattle.audit_definitions.specs.declared.verdict.Verdict.{Verdict}
use Rattle.audit_definitions.specs.declared.verdict.Verdict.TheVariants as V
use Rattle.mesh_types.specs.declared.events.Event.{Event}
use Rattle.mesh_types.specs.declared.events.Event.TheVariants as E
use Rattle.mesh_types.specs.declared.report.ReportLine.{ReportLine}
use Rattle.node_layers.specs.BuiltLayers.{built_layers}
use Rattle.node_layers.specs.NodeLayers.{node_layers}
use Rattle.report_definitions.specs.Record.{Run}
use Rattle.report_definitions.specs.Report.{report_text}
use Rattle.event_definitions.specs.Answers.{config_before}
use Rattle.event_definitions.specs.Fit.{HasElements, HasOwnEvents, IsOwn}
use Rattle.event_definitions.specs.Handling.{IsPast}
use Rattle.event_definitions.specs.History.{Past}
use Rattle.event_definitions.specs.Layers.{AccessMessage, ControlMessage, Layers}
use Rattle.run_definitions.specs.Order.{phases_of}
use Rattle.run_definitions.specs.RunOf.{RunOf, Script}
use Rattle.event_definitions.specs.Safe.{AreSafe}
use Rattle.event_definitions.specs.Role.{Role, node_role}
use Rattle.script_definitions.specs.declared.line.ScriptNet.{ScriptNet}
use Rattle.store_definitions.specs.Config.{Config}

-- Each `send` of a script names an element of its node, from 0 on, as the grammar of scripts has it. Without this the law is false: what goes
-- out for another element has a source that is none of the node's, and a PDU of that source which is heard goes on.

abbrev pub NamesElement : ℕ → Event → Type 0
NamesElement elements (E.Send element dst ttl key payload) = element < elements
NamesElement elements _ = ⊤

-- in each life, each phase, and on each bearer
abbrev pub NamesElements : Script → Type 0
NamesElements s =
    All (λ plan. All (λ phase. All (λ events. All (NamesElement s.node.elements) events) phase) (phases_of plan))
    s.lives

-- What stands before an event in a node that has an element: what it was asked to send came from its elements, and they are still the same.
pub record IsOwnPast (role : Role) (past : Past) (c : Config) : Type 0 where
  pub handled : IsPast role past
  pub some : 1 ≤ (config_before past).elements
  pub asked : HasOwnEvents past
  pub elements : HasElements past c

-- After such a past the layers above the lower transport layer send from an element alone.
pub record SendOwn (layers : Layers) : Type 0 where
  pub acks_due : (past : Past) (c : Config) (ticks : ℕ) → IsOwnPast (node_role layers) past c
      → All (IsOwn c) (layers.acks_due past c ticks)
  pub segments_due : (past : Past) (c : Config) (ticks : ℕ) → IsOwnPast (node_role layers) past c
      → All (IsOwn c) (layers.segments_due past c ticks)
  pub control_jobs : (past : Past) (c : Config) (m : ControlMessage) → IsOwnPast (node_role layers) past c
      → All (IsOwn c) (layers.control_jobs past c m)
  pub replies : (past : Past) (c : Config) (m : AccessMessage) → IsOwnPast (node_role layers) past c
      → All (IsOwn c) (layers.replies past c m)
  pub published : (past : Past) (c : Config) (ticks : ℕ) → IsOwnPast (node_role layers) past c
      → All (IsOwn c) (layers.published past c ticks)

abbrev pub NodeSendOwn : Type 0
NodeSendOwn = SendOwn node_layers

abbrev pub BuiltSendOwn : Type 0
BuiltSendOwn = SendOwn built_layers

-- neither that a nonce was used twice, nor that a message was accepted twice
abbrev pub TellsNothingTwice : Verdict → Type 0
TellsNothingTwice (V.Sound lines) = ⊤
TellsNothingTwice (V.Reuse a b) = ⊥
TellsNothingTwice (V.Twice a b) = ⊥
TellsNothingTwice (V.Bad line) = ⊤

-- The law, of a kind of node. Take any script whose `send` lines name elements, any run of it, any lines of keys, and behind them the report of the run, with
-- the octets of network PDUs or without. Of the lines that this text is read as no two use a nonce twice, and no two accept one message:
-- whatever is wrong with them is a bad line.
abbrev pub AreReportsSafeOf : Role → Type 0
AreReportsSafeOf role =
    (s : Script) (r : Run) → NamesElements s → RunOf role s r
    → (keys : List ℕ) (nets : List ScriptNet) → IsInput keys nets []
    → (hex : Bool) (given : List ScriptNet) (lines : List ReportLine) → IsInput (keys ++ report_text r hex) given lines
    → (v : Verdict) → IsWrong given lines v → TellsNothingTwice v

abbrev pub AreReportsSafe : Layers → Type 0
AreReportsSafe layers = AreReportsSafeOf (node_role layers)

-- so no verdict of an audit on this text is one of the two
abbrev pub AreVerdictsSafeOf : Role → Type 0
AreVerdictsSafeOf role =
    (s : Script) (r : Run) → NamesElements s → RunOf role s r
    → (keys : List ℕ) (nets : List ScriptNet) → IsInput keys nets []
    → (hex : Bool) (v : Verdict) → IsVerdict (keys ++ report_text r hex) v → TellsNothingTwice v

abbrev pub AreVerdictsSafe : Layers → Type 0
AreVerdictsSafe layers = AreVerdictsSafeOf (node_role layers)

-- of all safe layers that send from an element alone
abbrev pub ReportsAreSafe : Type 0
ReportsAreSafe = (layers : Layers) → AreSafe layers → SendOwn layers → AreReportsSafe layers

abbrev pub VerdictsAreSafe : Type 0
VerdictsAreSafe = (layers : Layers) → AreSafe layers → SendOwn layers → AreVerdictsSafe layers
