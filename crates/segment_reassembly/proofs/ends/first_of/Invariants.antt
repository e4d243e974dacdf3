-- The end for the messages so far.
use Rattle.std.proofs.Common.{◌≡◌, ℕ, ◌≤◌, ◌^◌, ◌↔◌, false, take}
use Rattle.std.specs.List.{list_any}
use Rattle.segment_reassembly.specs.Ends.{is_ending}
use Rattle.timer_ends.specs.Ends.{IsBefore}
use Rattle.segment_reassembly.proofs.ends.first_of.Given as goal

abbrev pub invariant-loop-a : goal.invariant-loop-a
invariant-loop-a l = (now : ℕ) → now ≤ 2 ^ 48 → list_any (is_ending now) (take l.a-index l.rows) ≡ false ↔ IsBefore now l.first
