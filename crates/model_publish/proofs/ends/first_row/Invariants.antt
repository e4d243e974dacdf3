-- The end for the rows so far.
use Rattle.std.proofs.Common.{◌≡◌, ℕ, ◌≤◌, ◌^◌, ◌↔◌, false, take}
use Rattle.std.specs.List.{list_any}
use Rattle.model_states.specs.Publication.{is_row_due}
use Rattle.timer_ends.specs.Ends.{IsBefore}
use Rattle.model_publish.proofs.ends.first_row.Given as goal

abbrev pub invariant-loop-p : goal.invariant-loop-p
invariant-loop-p l = (now : ℕ) → now ≤ 2 ^ 48 → list_any (is_row_due l.asked now) (take l.p-index l.rows) ≡ false ↔ IsBefore now l.first
