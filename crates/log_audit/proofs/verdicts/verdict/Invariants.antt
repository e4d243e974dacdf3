use Rattle.std.proofs.Common.{◌≡◌, ◌+◌, ◌≤◌, List, length, map}
use Rattle.std.specs.BTreeMap.{get}
use Rattle.std.specs.BTreeSet.{contains}
use Rattle.std.specs.Ordering.{nat_cmp}
use Rattle.mesh_types.specs.declared.report.ReportLine.{ReportLine}
use Rattle.script_definitions.specs.Events.{material_of}
use Rattle.script_definitions.specs.declared.line.ScriptNet.{ScriptNet}
use Rattle.log_audit.specs.Facts.{key_cmp}
use Rattle.log_audit.specs.Reading.{IsRead}
use Rattle.log_audit.proofs.Walk.{Judged}
use Rattle.log_audit.proofs.verdicts.verdict.Given as goal

abbrev pub invariant-loop-rest : goal.invariant-loop-rest
invariant-loop-rest l = record {
  judged : (nets : List ScriptNet) (lines : List ReportLine) → map material_of nets ≡ l.keys → length nets ≡ l.before
      → IsRead (λ a. contains nat_cmp l.own a) l.report lines
      → Judged (λ a. contains nat_cmp l.own a) nets lines l.rest l.number (λ q. get key_cmp l.pdus q) (λ q. get key_cmp l.messages q) (λ q. get key_cmp l.names q);
  size : l.number + length l.rest ≤ l.before + length l.report;
}

abbrev pub decreases-loop-rest : goal.decreases-loop-rest
decreases-loop-rest l = length l.rest
