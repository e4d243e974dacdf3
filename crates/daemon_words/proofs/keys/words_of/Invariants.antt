use Rattle.std.proofs.Common.{◌≡◌, ◌==◌, not, length, take, map, filter}
use Rattle.daemon_words.proofs.keys.words_of.Given as goal

abbrev pub invariant-loop-piece : goal.invariant-loop-piece
invariant-loop-piece l = map (λ w. w.now) l.words.items ≡ filter (λ w. not (length w == 0)) (take l.piece-index (map (λ p. p.now) l.piece-items))
