-- The messages so far that send a round.
use Rattle.std.proofs.Common.{◌≡◌, ◌≤◌, filter, length, take}
use Rattle.segment_sender.specs.Held.{has_round}
use Rattle.segment_sender.proofs.rows.all_rounds.Given as goal

abbrev pub invariant-loop-s : goal.invariant-loop-s
invariant-loop-s l =
    record {
      rounds : l.list.items ≡ filter (has_round l.now) (take l.s-index l.rows);
      few : length l.list.items ≤ l.s-index;
    }
