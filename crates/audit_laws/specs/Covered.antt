-- That an audit finds nothing wrong with the report of a run, where it is given the keys that sealed it.
use Rattle.std.specs.Prelude.{◌≡◌, ℕ, ◌+◌, true, false, List, [], ◌++◌, length, All, Contains, Option, Some, None, IfSome}
use Rattle.std.specs.Option.{option_map}
use Rattle.audit_definitions.specs.Input.{IsInput}
use Rattle.audit_definitions.specs.Verdicts.{IsVerdict}
use Rattle.audit_definitions.specs.declared.verdict.Verdict.{Verdict}
use Rattle.audit_definitions.specs.declared.verdict.Verdict.TheVariants as V
use Rattle.layer_definitions.specs.Network.{HasPdu, IsInWidths}
use Rattle.mesh_base.specs.declared.fields.NetFields.{NetFields}
use Rattle.mesh_base.specs.declared.fields.NetMaterial.{NetMaterial}
use Rattle.mesh_types.specs.declared.jobs.Job.{Job}
use Rattle.mesh_types.specs.declared.lines.Outcome.{Outcome}
use Rattle.mesh_types.specs.declared.lines.Outcome.TheVariants as O
use Rattle.report_definitions.specs.Record.{Run, Shown, shown}
use Rattle.report_definitions.specs.Report.{report_text}
use Rattle.report_reader.specs.ReportLine.{IsTold}
use Rattle.event_definitions.specs.Layers.{Layers}
use Rattle.run_definitions.specs.RunOf.{RunOf, Script}
use Rattle.run_definitions.specs.Seals.{message_fields, own_fields}
use Rattle.run_definitions.specs.Uses.{material_of, segment_of, upper_key_of}
use Rattle.event_definitions.specs.Safe.{AreSafe}
use Rattle.event_definitions.specs.Role.{Role, node_role}
use Rattle.script_definitions.specs.Events.{material_of as material_given}
use Rattle.script_definitions.specs.declared.line.ScriptNet.{ScriptNet}
use Rattle.audit_laws.specs.Laws.{NamesElements, SendOwn}
use Rattle.audit_laws.specs.Reading.{as_told, report_lines}

-- the fields of the network PDU that a line of a job shows
abbrev pub fields_shown : Job → Outcome → Option NetFields
fields_shown job (O.Ctl pair ttl src dst tpdu pdu) = Some (own_fields pair true ttl src dst tpdu)
fields_shown job (O.Msg pair ttl src dst key payload pdu) =
    option_map (λ k. message_fields k pair ttl src dst payload) (upper_key_of job)
fields_shown job (O.Seg pair ttl src dst seg_o seg_n auth pdu) =
    Some (own_fields pair false ttl src dst (segment_of job))
fields_shown job (O.Relay pair ctl ttl src dst tpdu pdu) = Some (own_fields pair ctl ttl src dst tpdu)
fields_shown job _ = None

-- one of these keys has the material
abbrev pub HasKey : List ScriptNet → NetMaterial → Type 0
HasKey nets m = (net : ScriptNet) × Contains nets net × (material_given net ≡ m)

-- The fields are those of a network PDU, and the material that sealed it is that of a key given.
pub record IsCovered (nets : List ScriptNet) (s : Shown) : Type 0 where
  pub pdu : IfSome (fields_shown s.job s.outcome) (λ f. HasPdu f × IsInWidths f)
  pub key : IfSome (material_of s.job) (HasKey nets)

-- in each life, each line
abbrev pub AreCovered : List ScriptNet → Run → Type 0
AreCovered nets r = All (λ x. All (IsCovered nets) (shown x.life)) r.lives

-- The law: whatever run there is of a script whose `send` lines name elements, if its lines are within the widths of a report, and the keys
-- given are those that sealed its PDUs, then an audit of its report finds it sound, and tells how many lines it has.
abbrev pub AreReportsSoundOf : Role → Type 0
AreReportsSoundOf role =
    (s : Script) (r : Run) → NamesElements s → RunOf role s r
    → (keys : List ℕ) (nets : List ScriptNet) → IsInput keys nets []
    → All (λ line. IsTold (as_told line)) (report_lines r) → AreCovered nets r
    → (v : Verdict) → IsVerdict (keys ++ report_text r true) v → v ≡ V.Sound (length nets + length (report_lines r))

abbrev pub AreReportsSound : Layers → Type 0
AreReportsSound layers = AreReportsSoundOf (node_role layers)

abbrev pub ReportsAreSound : Type 0
ReportsAreSound = (layers : Layers) → AreSafe layers → SendOwn layers → AreReportsSound layers
