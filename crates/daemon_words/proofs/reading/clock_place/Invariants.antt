-- none of the words so far is it
use Rattle.std.proofs.Common.{◌≡◌, ◌+◌, drop, map}
use Rattle.daemon_words.specs.Commands.{clock_place}
use Rattle.daemon_words.proofs.reading.clock_place.Given as goal

abbrev pub invariant-loop-i : goal.invariant-loop-i
invariant-loop-i l = l.i + clock_place (drop l.i (map (λ w. w.now) l.words)) ≡ clock_place (map (λ w. w.now) l.words)
