-- The end for the messages so far.
use Rattle.std.proofs.Common.{◌≡◌, ℕ, ◌↔◌, false, take}
use Rattle.std.specs.List.{list_any}
use Rattle.layer_states.specs.Sending.{is_due}
use Rattle.timer_ends.specs.Ends.{IsBefore}
use Rattle.segment_sender.proofs.ends.first_round.Given as goal

abbrev pub invariant-loop-s : goal.invariant-loop-s
invariant-loop-s l = (now : ℕ) → list_any (is_due now) (take l.s-index l.rows) ≡ false ↔ IsBefore now l.first
