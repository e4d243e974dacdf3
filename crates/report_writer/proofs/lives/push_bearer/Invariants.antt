use Rattle.std.proofs.Common.{drop}
use Rattle.report_definitions.specs.Report.{bearer_lines}
use Rattle.report_writer.proofs.Texts.{MadeUpTo}
use Rattle.report_writer.proofs.lives.push_bearer.Given as goal

abbrev pub invariant-loop-sent : goal.invariant-loop-sent
invariant-loop-sent l = MadeUpTo (bearer_lines l.hex l.bearer l.sends) (bearer_lines l.hex l.bearer (drop l.sent-index l.sends)) l.fn.texts l.texts
