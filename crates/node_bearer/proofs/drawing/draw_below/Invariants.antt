-- The tries so far were lost, and behind one of them the seat owes no draw.
use Rattle.std.proofs.Common.{◌≡◌, ◌<◌, ℕ, List}
use Rattle.seq_word.specs.Seen.{IsPrefix, LostTries, SameDrawn}
use Rattle.node_bearer.proofs.drawing.draw_below.Given as goal

abbrev pub invariant-loop : goal.invariant-loop
invariant-loop l = record {
  unchanged : SameDrawn l.initial.d l.d;
  looks : IsPrefix l.initial.d.looks l.d.looks;
  lost : (tries : List (ℕ × ℕ)) × LostTries tries l.initial.d l.d;
  paid : 0 < l.counter → l.d.owes ≡ 0;
}
