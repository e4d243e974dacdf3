-- what is left decides
use Rattle.std.proofs.Common.{◌≡◌, drop, map}
use Rattle.daemon_words.specs.Commands.{all_fit}
use Rattle.daemon_words.proofs.reading.is_like.Given as goal

abbrev pub invariant-loop-i : goal.invariant-loop-i
invariant-loop-i l = all_fit (drop l.i (map (λ w. w.now) l.form)) (drop l.i (map (λ w. w.now) l.words)) ≡ all_fit (map (λ w. w.now) l.form) (map (λ w. w.now) l.words)
