use Rattle.std.proofs.Common.{ℕ, List}
use Rattle.seq_word.specs.Seen.{IsPrefix, SameDrawn, LostTries}
use Rattle.seq_word.proofs.numbers.Numbers.draw.Given as goal

abbrev pub invariant-loop : goal.invariant-loop
invariant-loop g l = record {
  can_next : (goal.iterator-loop g).can_next l.iterator';
  is_finite : (goal.iterator-loop g).is_finite l.iterator';
  unchanged : SameDrawn l.initial.d l.d;
  looks : IsPrefix l.initial.d.looks l.d.looks;
  lost : (tries : List (ℕ × ℕ)) × LostTries tries l.initial.d l.d;
}
