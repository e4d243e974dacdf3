use Rattle.std.proofs.Common.{◌≡◌, ◌≤◌, count_by, take}
use Rattle.run_summary.specs.Summaries.{is_control, is_not_mine, is_planned}
use Rattle.run_summary.proofs.counts.count_answers.Given as goal

abbrev pub invariant-loop-entry : goal.invariant-loop-entry
invariant-loop-entry l = record {
  planned : l.counts.planned ≡ count_by (λ e. is_planned e.answer) (take l.entry-index l.entries);
  control : l.counts.control ≡ count_by (λ e. is_control e.answer) (take l.entry-index l.entries);
  not_mine : l.counts.not_mine ≡ count_by (λ e. is_not_mine e.answer) (take l.entry-index l.entries);
  few_planned : l.counts.planned ≤ l.entry-index;
  few_control : l.counts.control ≤ l.entry-index;
  few_not_mine : l.counts.not_mine ≤ l.entry-index;
}
