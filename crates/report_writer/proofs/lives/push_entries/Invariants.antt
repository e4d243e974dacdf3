use Rattle.std.proofs.Common.{◌≡◌, ◌+◌, drop}
use Rattle.report_definitions.specs.Report.{entry_lines}
use Rattle.report_writer.proofs.Texts.{MadeUpTo}
use Rattle.report_writer.proofs.lives.push_entries.Given as goal

abbrev pub invariant-loop-entry : goal.invariant-loop-entry
invariant-loop-entry l = record {
  place : l.at ≡ l.first + l.entry-index;
  texts : MadeUpTo (entry_lines (l.first + 1) l.entries) (entry_lines (l.first + l.entry-index + 1) (drop l.entry-index l.entries)) l.fn.texts l.texts;
}
