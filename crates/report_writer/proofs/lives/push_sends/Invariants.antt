use Rattle.std.proofs.Common.{◌≡◌, drop, map}
use Rattle.report_definitions.specs.Report.{send_lines}
use Rattle.report_writer.proofs.Texts.{MadeUpTo}
use Rattle.report_writer.proofs.lives.push_sends.Given as goal

abbrev pub invariant-loop-sent : goal.invariant-loop-sent
invariant-loop-sent l = record {
  place : l.bearer ≡ l.sent-index;
  texts : MadeUpTo (send_lines l.hex 0 (map (λ v. v.items) l.sends)) (send_lines l.hex l.sent-index (map (λ v. v.items) (drop l.sent-index l.sends))) l.fn.texts l.texts;
}
