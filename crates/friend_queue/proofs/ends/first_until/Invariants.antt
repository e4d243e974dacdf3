-- The end for the friendships so far.
use Rattle.std.proofs.Common.{◌≡◌, ℕ, ◌↔◌, false, take}
use Rattle.std.specs.List.{list_any}
use Rattle.friend_queue.specs.Ends.{is_over}
use Rattle.timer_ends.specs.Ends.{IsBefore}
use Rattle.friend_queue.proofs.ends.first_until.Given as goal

abbrev pub invariant-loop-s : goal.invariant-loop-s
invariant-loop-s l = (now : ℕ) → list_any (is_over now) (take l.s-index l.slots) ≡ false ↔ IsBefore now l.first
